use Rattle.rdf_trig.proofs.Prelude.{◌≡◌, ◌+◌, ◌≤◌, ℕ, false, List, subst, length, Quad, tokens_of, unread_bytes, bytes_held, HasRead, Chosen, Owed, OwedInAll, TrigRead, tree_words}
use Rattle.rdf_tokens.specs.Laws.{open_bytes}
use Rattle.rdf_driver.specs.Readers as R
use Rattle.rdf_trig.specs.Texts.{all_bytes}
use Rattle.rdf_trig.proofs.code.OwedHeld.{owed_held, all_owed_held}
use Rattle.rdf_trig.proofs.reader.TrigReader.held.Goals as goal

pub returns-clause-sum : goal.returns-clause-sum
returns-clause-sum g c = subst (λ (r : TrigRead). c.held.result ≡ unread_bytes r.scanner + r.grammar.held) c.self.view_is c.held.ensures.sum

pub returns-clause-all : goal.returns-clause-all
returns-clause-all g c = subst (λ (r : TrigRead). all_bytes r ≤ R.most_held tree_words r) c.self.view_is c.held.ensures.all

pub returns-clause-least : goal.returns-clause-least
returns-clause-least g c =
    subst
    (λ (r : TrigRead). (x : Chosen) (bytes : List ℕ) (quads : List Quad) (size : ℕ) → HasRead tree_words r x bytes quads →
    Owed x.form x.start (tokens_of tree_words.dialect r.scanner.limit bytes false).tokens size →
    unread_bytes r.scanner + bytes_held r.grammar.state.setting.scope + size ≤ c.held.result)
    c.self.view_is (owed_held _ c.held.result c.held.ensures.sum)

pub returns-clause-owed : goal.returns-clause-owed
returns-clause-owed g c =
    subst
    (λ (r : TrigRead). (x : Chosen) (bytes : List ℕ) (quads : List Quad) (size : ℕ) → HasRead tree_words r x bytes quads →
    OwedInAll x.form x.start (tokens_of tree_words.dialect r.scanner.limit bytes false).tokens size →
    length (open_bytes tree_words.dialect r.scanner.limit bytes) + size ≤ c.held.result)
    c.self.view_is (all_owed_held _ c.held.result c.held.ensures.sum)
