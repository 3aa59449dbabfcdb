-- What is said of a text that is no IRI, step by step.
use Rattle.rdf_command.proofs.Prelude.{◌≡◌, ◌∙◌, ◌+◌, ℕ, Bool, true, false, true≢false, List, [], ◌∷◌, Option, Some, None, IfSome, is_some, Result, Ok, Err, IfOk, ap, codes, cond, encode_utf8, encode_utf8_all, inr, length, length-append, option_map, refl, subst, sym, ValueParser, byte_len, rdfconv, RefusesWith, bad_char, iri_front, lines_about, lines_by, lines_for, lines_of, IsOfIri, IsNoTaskOf, IsToldBy, GoesTo, TakesFormats, base_by, number_of}
use Rattle.std.specs.Result.{result_ok}
use Rattle.clap.specs.Words.{Row, Text, first_of}
use Rattle.rdf_terms.specs.Classes.{has}
use Rattle.rdf_terms.specs.Classes.Class.{iri_char}
use Rattle.rdf_command.specs.declared.task.WordsFault.{WordsFault}
use Rattle.rdf_command.specs.declared.task.WordsFault.TheVariants.{Usage, BadBase, BadNodePrefix, BadGraph, BadSkip, NoFormat, Memory}
use Rattle.rdf_command.specs.Words.{is_given}
use Rattle.rdf_command.proofs.GivenLemmas.{same_some}

-- a text that begins with a character that may stand in an IRI
pub good_step : (c : ℕ) (w : List ℕ) → has iri_char c ≡ true → (bad_char (c ∷ w) ≡ bad_char w)
    × (byte_len (iri_front (c ∷ w)) ≡ length (encode_utf8 c) + byte_len (iri_front w))
good_step c w e = (
  ap (λ b. cond b (bad_char w) (Some c)) e,
  ap (λ b. byte_len (cond b (c ∷ iri_front w) [])) e
      ∙ length-append (encode_utf8 c) (encode_utf8_all (iri_front w)),
)

-- and with one that can't
pub bad_step : (c : ℕ) (w : List ℕ) → has iri_char c ≡ false → (bad_char (c ∷ w) ≡ Some c) × (byte_len (iri_front (c ∷ w)) ≡ 0)
bad_step c w e = (ap (λ b. cond b (bad_char w) (Some c)) e, ap (λ b. byte_len (cond b (c ∷ iri_front w) [])) e)

-- the lines about a text of the matches, where they ask for an explanation
module _ (rows : List Row) (fault : WordsFault) (most : ℕ) (text : Option Text) (asked : is_given (first_of (codes "explain") rows) ≡ true)
    (limit : number_of (codes "iri") rows ≡ Some most) where
  by_rows : lines_by rows fault ≡ lines_about rows fault
  by_rows = ap (λ b. cond b (lines_about rows fault) None) asked

  pub lines_of_base : fault ≡ BadBase → text ≡ base_by (first_of (codes "base") rows) →
      lines_of (codes "rdfconv: bad base\n") text (Some most) ≡ lines_by rows fault
  lines_of_base is same =
      sym (by_rows ∙ (ap (lines_about rows) is
      ∙ (ap (λ t. lines_of (codes "rdfconv: bad base\n") t (number_of (codes "iri") rows)) (sym same)
      ∙ ap (lines_of (codes "rdfconv: bad base\n") text) limit)))

  pub lines_of_graph : fault ≡ BadGraph → text ≡ first_of (codes "graph") rows → lines_of (codes "rdfconv: bad graph\n") text (Some most) ≡ lines_by rows fault
  lines_of_graph is same =
      sym (by_rows ∙ (ap (lines_about rows) is
      ∙ (ap (λ t. lines_of (codes "rdfconv: bad graph\n") t (number_of (codes "iri") rows)) (sym same)
      ∙ ap (lines_of (codes "rdfconv: bad graph\n") text) limit)))

-- the lines that a parse gives, where it does
pub told_by : {S E : Type 0} (bytes : S → List ℕ) (parser : ValueParser) (words : List Text) (fault : WordsFault) (r : Result (Option S) E) (told : Option S)
    → TakesFormats parser → Some told ≡ result_ok r → IfOk r (λ l. option_map bytes l ≡ lines_for (rdfconv parser) words fault)
    → IfSome told (λ s. IsToldBy words fault (Some (bytes s)))
told_by bytes parser words fault (Err e) told takes is h = absurd (true≢false (ap is_some is))
told_by bytes parser words fault (Ok l) None takes is h = tt
told_by bytes parser words fault (Ok l) (Some s) takes is h = (parser, takes, ap (option_map bytes) (same_some (Some s) l is) ∙ h)

-- lines that are there, or none for want of memory
module _ {S : Type 0} (bytes : S → List ℕ) where
  -- there are lines by some words, be they told or not
  pub told_of : (words : List Text) (fault : WordsFault) (told : Option S) → IsNoTaskOf words fault → IfSome told (λ s. IsToldBy words fault (Some (bytes s)))
      → (lines : Option (List ℕ)) × IsToldBy words fault lines × IfSome told (λ s. lines ≡ Some (bytes s))
  told_of words fault None given is = (lines_for (rdfconv given.0) words fault, (given.0, given.1, refl), tt)
  told_of words fault (Some s) given is = (Some (bytes s), is, refl)

  -- what is reported with what is told is what is reported with the lines
  pub refuses_with : (told : Option S) (lines : Option (List ℕ)) (fault : WordsFault) (status : ℕ) (old new : Option (List ℕ)) (failed : Bool)
      → IfSome told (λ s. lines ≡ Some (bytes s)) → RefusesWith (option_map bytes told) fault status old new failed →
      RefusesWith lines fault status old new failed
  refuses_with (Some s) lines fault status old new failed is r = subst (λ l. RefusesWith l fault status old new failed) (sym is) r
  refuses_with None None fault status old new failed is r = r
  refuses_with None (Some l) fault status old new failed is r = inr r

-- a text that is no IRI changes the error output alone
pub of_iri : {O E : Type 0} (fault : WordsFault) (out : O) (old new : E) → IsOfIri fault → GoesTo fault out out old new
of_iri (Usage e) out old new h = absurd h
of_iri BadBase out old new h = refl
of_iri BadNodePrefix out old new h = absurd h
of_iri BadGraph out old new h = refl
of_iri BadSkip out old new h = absurd h
of_iri (NoFormat name) out old new h = absurd h
of_iri Memory out old new h = absurd h
