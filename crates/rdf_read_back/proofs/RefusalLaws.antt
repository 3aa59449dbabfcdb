-- The laws of refusals, for each format.
use Rattle.rdf_read_back.proofs.Prelude.{◌≡◌, ℕ, Bool, List, refl, Reason, Unexpected, RelativeIri, IriTooLong, Token, Refused, reading_of, RefusedOnce, RefusedInMore}
use Rattle.rdf_tokens.specs.Tokens.{Place}
use Rattle.rdf_tokens.proofs.LanguageLemmas.{EndsAtBlame, refused_in_more}
use Rattle.rdf_lines.specs.declared.form.LineForm.{LineForm}
use Rattle.rdf_lines.specs.declared.form.LineForm.TheVariants as line
use Rattle.rdf_lines.specs.Documents.{Blamed}
use Rattle.rdf_lines.proofs.AcceptingLemmas.{lawful as lines_lawful}
use Rattle.rdf_trig.specs.declared.form.DocForm.TheVariants as doc
use Rattle.rdf_trig.proofs.code.LawfulGrammar.{lawful as trees_lawful}
use Rattle.rdf_stream.specs.declared.form.Form.{Form}
use Rattle.rdf_stream.specs.declared.form.Form.TheVariants as form
use Rattle.rdf_stream.specs.Jobs.{JobRead}
use Rattle.rdf_stream.specs.Kinds.{kind_of}
use Rattle.rdf_stream.specs.Languages.{conversion_by, tree_job}
use Rattle.rdf_read_back.proofs.RefusedOnce.{refused_once}
use Rattle.rdf_read_back.proofs.BlamedOnce.{blamed_once}

-- a token of a line is refused for one reason
line_blamed_once : (f : LineForm) (iri : ℕ) (r s : Reason) (ts : List Token) (t : Token) → Blamed f iri r ts t → Blamed f iri s ts t → r ≡ s
line_blamed_once f iri Unexpected Unexpected ts t h k = refl
line_blamed_once f iri Unexpected RelativeIri ts t h k = absurd (h.1 k.1.0)
line_blamed_once f iri Unexpected IriTooLong ts t h k = absurd (h.0 k.0)
line_blamed_once f iri RelativeIri Unexpected ts t h k = absurd (k.1 h.1.0)
line_blamed_once f iri RelativeIri RelativeIri ts t h k = refl
line_blamed_once f iri RelativeIri IriTooLong ts t h k = absurd (h.0 k.0)
line_blamed_once f iri IriTooLong Unexpected ts t h k = absurd (k.0 h.0)
line_blamed_once f iri IriTooLong RelativeIri ts t h k = absurd (k.0 h.0)
line_blamed_once f iri IriTooLong IriTooLong ts t h k = refl
line_blamed_once f iri Unexpected s ts t h k = absurd k
line_blamed_once f iri RelativeIri s ts t h k = absurd k
line_blamed_once f iri IriTooLong s ts t h k = absurd k
line_blamed_once f iri r s ts t h k = absurd h

module _ (job : JobRead) where
  once_by : (f : Form) (bytes : List ℕ) (e : Bool) (r s : Reason) (p q : Place) → let l = (conversion_by (kind_of f) job).language in
      Refused l bytes e r p → Refused l bytes e s q → (r ≡ s) × (p ≡ q)
  once_by form.NTriples bytes e r s p q x y = let l = (conversion_by (kind_of form.NTriples) job).language in
      refused_once l (line_blamed_once line.NTriples job.limits.iri) (reading_of l bytes e) r s p q x.0 y.0 x.1 y.1
  once_by form.NQuads bytes e r s p q x y = let l = (conversion_by (kind_of form.NQuads) job).language in
      refused_once l (line_blamed_once line.NQuads job.limits.iri) (reading_of l bytes e) r s p q x.0 y.0 x.1 y.1
  once_by form.Turtle bytes e r s p q x y = let l = (conversion_by (kind_of form.Turtle) job).language in
      refused_once l (λ a b ts t. blamed_once doc.Turtle (tree_job doc.Turtle job).start ts t a b) (reading_of l bytes e) r s p q x.0 y.0 x.1 y.1
  once_by form.TriG bytes e r s p q x y = let l = (conversion_by (kind_of form.TriG) job).language in
      refused_once l (λ a b ts t. blamed_once doc.TriG (tree_job doc.TriG job).start ts t a b) (reading_of l bytes e) r s p q x.0 y.0 x.1 y.1

  ends_by : (f : Form) → EndsAtBlame (conversion_by (kind_of f) job).language
  ends_by form.NTriples = lines_lawful.ends (record { form = line.NTriples; iri = job.limits.iri })
  ends_by form.NQuads = lines_lawful.ends (record { form = line.NQuads; iri = job.limits.iri })
  ends_by form.Turtle = trees_lawful.ends (tree_job doc.Turtle job)
  ends_by form.TriG = trees_lawful.ends (tree_job doc.TriG job)

-- one reason, and one place
pub once : RefusedOnce
once job bytes e r s p q x y = once_by job job.form bytes e r s p q x y

-- and more bytes change neither
pub in_more : RefusedInMore
in_more job bytes more e r p x = (x.0, refused_in_more (conversion_by (kind_of job.form) job).language (ends_by job job.form) bytes more e r p x.0 x.1)
