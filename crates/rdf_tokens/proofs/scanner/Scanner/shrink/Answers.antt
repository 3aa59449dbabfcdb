-- What is left of the text is what is not read yet.
use Rattle.rdf_tokens.proofs.Prelude.{◌≡◌, ◌≤◌, ℕ, List, length, length-drop, drop, ap, ◌∙◌, subst, arith, chars, string_bytes, all_bytes, Unread}
use Rattle.std.proofs.lemmas.Grind.{common_steps}
use Rattle.rdf_tokens.proofs.Inside.{unread_of}
use Rattle.rdf_tokens.proofs.scanner.Scanner.shrink.Goals as goal

pub invariant_of-self : goal.invariant_of-self
invariant_of-self g c = grind (arith, common_steps)

-- a scanner with this text and so many bytes held
abbrev with_text : Unread → ℕ → List ℕ → Unread
with_text v n text = record v { text = text; held = n }

pub returns-in-Ok-clause-same : goal.returns-in-Ok-clause-same
returns-in-Ok-clause-same g c =
    let s = c.self.inside in
    let n = all_bytes (string_bytes c.shrink_to.new.self) s.pending.items in
    let left : string_bytes c.shrink_to.new.self ≡ drop s.start (string_bytes s.text) = c.shrink_to.ensures.bytes ∙ c.in-Ok.ensures.ok in
    ap (λ w. with_text (unread_of s) n (chars w)) left ∙ ap (λ (v : Unread). with_text v n v.text) c.self.view_is

pub returns-in-Ok-clause-less : goal.returns-in-Ok-clause-less
returns-in-Ok-clause-less g c =
    let s = c.self.inside in
    let left : string_bytes c.shrink_to.new.self ≡ drop s.start (string_bytes s.text) = c.shrink_to.ensures.bytes ∙ c.in-Ok.ensures.ok in
    let size = ap length left ∙ length-drop s.start (string_bytes s.text) in
    subst (λ (v : Unread). all_bytes (string_bytes c.shrink_to.new.self) s.pending.items ≤ v.held) c.self.view_is (omega (arith, size))
