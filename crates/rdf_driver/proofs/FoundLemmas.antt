-- A token that stands at a place of some bytes does so in more.
use Rattle.rdf_driver.proofs.Prelude.{ℕ, Bool, false, List, ◌++◌, Option, ap, ◌∙◌, append_assoc, Kind, Place, Token, LanguageOf, reading_of, StandsAt}
use Rattle.rdf_tokens.proofs.LawLemmas.{lengthens}

-- what the bytes decide is not changed by more
pub stands_more : {I : Type 0} (l : LanguageOf I) (bytes more : List ℕ) (e : Bool) (ahead : List Token) (at : Place) (found : Option Kind) →
    StandsAt (reading_of l bytes false) ahead at found → StandsAt (reading_of l (bytes ++ more) e) ahead at found
stands_more l bytes more e ahead at found s =
    let m = (lengthens l.dialect l.limit bytes more e).0 in
    record {
      token = s.token;
      after = s.after ++ m.0;
      tokens = m.1 ∙ (ap (λ ts. ts ++ m.0) s.tokens ∙ append_assoc ahead _ m.0);
      place = s.place;
      kind = s.kind;
    }
