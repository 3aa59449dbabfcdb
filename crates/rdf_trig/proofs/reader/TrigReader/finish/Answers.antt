use Rattle.rdf_trig.proofs.Prelude.{ℕ, List, subst, IfErr, Quad, IsWhole, in_words, HasRead, SameLimits, Exactly, IsPlaced, Chosen, TrigRead, tree_words}
use Rattle.rdf_tokens.specs.Scans.{place_of}
use Rattle.rdf_trig.proofs.reader.TrigReader.finish.Goals as goal

pub returns-clause-exact : goal.returns-clause-exact
returns-clause-exact g c =
    subst
    (λ (r : TrigRead). (x : Chosen) (bytes : List ℕ) (quads : List Quad) → HasRead tree_words r x bytes quads →
    Exactly c.finish.result (IsWhole (in_words tree_words x r.scanner.limit) bytes))
    c.self.view_is c.finish.ensures.exact

pub returns-clause-place : goal.returns-clause-place
returns-clause-place g c =
    subst
    (λ (r : TrigRead). IfErr c.finish.result (λ f. (x : Chosen) (bytes : List ℕ) (quads : List Quad) → HasRead tree_words r x bytes quads →
    IsPlaced f.reason bytes (place_of f)))
    c.self.view_is c.finish.ensures.place

pub returns-clause-limits : goal.returns-clause-limits
returns-clause-limits g c = subst (λ (r : TrigRead). SameLimits tree_words r c.finish.new.self) c.self.view_is c.finish.ensures.limits
