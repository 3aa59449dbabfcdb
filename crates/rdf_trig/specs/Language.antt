-- Turtle and TriG as languages.
use Rattle.rdf_terms.specs.declared.kind.Dialect.TheVariants.{Turtle as turtle}
use Rattle.std.specs.Prelude.{ℕ, List, [], Option}
use Rattle.rdf_tokens.specs.Grammars.{Language}
use Rattle.rdf_iri.specs.Limits.{Sizes}
use Rattle.rdf_iri.specs.Scope.{InForce}
use Rattle.rdf_trig.specs.declared.form.DocForm.{DocForm}
use Rattle.rdf_trig.specs.Documents.{documents, Passes}
use Rattle.rdf_trig.specs.Refusals.{Blamed}

-- what the documents depend on: the form, and the scope before the first token
pub record Chosen : Type 0 where
  pub form : DocForm
  pub start : InForce

-- this form, from a scope with this base or none and no prefix bound, within these limits
abbrev pub chosen_alone : DocForm → Option (List ℕ) → Sizes → Chosen
chosen_alone form base limits = record { form = form; start = record { base = base; bindings = []; limits = limits } }

-- A form as a language, from this scope on, by the limits of it.
abbrev pub language : DocForm → InForce → Language
language form start =
    record { dialect = turtle; limit = start.limits.token; documents = documents form start; passes = Passes form start; blames = Blamed form start }
