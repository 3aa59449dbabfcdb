use Rattle.rdf_tokens.proofs.Prelude.{rules, ◌+◌, ◌-◌, ◌≡◌, ◌≤◌, length, ap, ◌∙◌, subst, arith, IsUtf8-string_bytes, string_bytes, unread_bytes, most_unread}
use Rattle.rdf_tokens.proofs.HeldLemmas.{size_of_rest}
use Rattle.rdf_tokens.proofs.scanner.Scanner.pending.Goals as goal

pub returns-clause-count : goal.returns-clause-count
returns-clause-count g c =
    let s = c.self.inside in
    let size : c.len.result - s.start + c.len-2.result ≡ length (string_bytes s.text) - s.start + length s.pending.items = search rules in
    size ∙ (ap (λ n. n + length s.pending.items) (size_of_rest (string_bytes s.text) s.start c.self.invariant.held.boundary (IsUtf8-string_bytes s.text))
    ∙ ap unread_bytes c.self.view_is)

pub returns-clause-within : goal.returns-clause-within
returns-clause-within g c =
    let s = c.self.inside in
    let size : c.len.result - s.start + c.len-2.result ≡ length (string_bytes s.text) - s.start + length s.pending.items = search rules in
    subst (λ v. c.len.result - s.start + c.len-2.result ≤ v.held) c.self.view_is (omega (arith, size))

-- all texts together have no more bytes than the limit allows
pub returns-clause-all : goal.returns-clause-all
returns-clause-all g c = subst (λ v. v.held ≤ most_unread v.limit) c.self.view_is c.self.invariant.bounded

pub returns-clause-bound : goal.returns-clause-bound
returns-clause-bound g c =
    let s = c.self.inside in
    let size : c.len.result - s.start + c.len-2.result ≡ length (string_bytes s.text) - s.start + length s.pending.items = search rules in
    let bounded : length (string_bytes s.text) + length s.pending.items ≤ most_unread s.limit = c.self.invariant.bounded in
    subst (λ v. c.len.result - s.start + c.len-2.result ≤ most_unread v.limit) c.self.view_is (omega (arith, size))
