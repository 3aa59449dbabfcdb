-- To move over bytes without a token: the place, the count of lines and the scanner's fields stay right.
use Rattle.rdf_tokens.proofs.Prelude.{rules, ◌≡◌, ◌+◌, ◌≤◌, ◌-◌, ◌==◌, count_by, drop, take, length, sym, ap, ◌∙◌, subst, IsUtf8-string_bytes, chars, string_bytes, bytes_of}
use Rattle.rdf_tokens.proofs.MoveLemmas.{moved-none}
use Rattle.rdf_tokens.proofs.HeldLemmas.{feeds_advanced, advance_within}
use Rattle.rdf_tokens.proofs.scanner.Scanner.advance.Goals as goal

pub returns-then-len-eq0 : goal.returns-then-len-eq0
returns-then-len-eq0 g c = λ n e. moved-none c.args.self.now n (sym e ∙ c.if-len-eq0.true)

pub overflow_add-end : goal.overflow_add-end
overflow_add-end g c =
    let s = c.self.inside in
    let n = c.requires.0 in
    let e : c.args.len ≡ bytes_of n (chars (drop s.start (string_bytes s.text))) = c.requires.1 ∙ ap (λ v. bytes_of n v.text) (sym c.self.view_is) in
    let l = advance_within (string_bytes s.text) s.start n c.args.len s.pending.items _ _ c.self.invariant.held (IsUtf8-string_bytes s.text) e in
    let k = s.text.bytes.ok.0 in
    search rules

pub slice_bounds-few_line_feeds-end : goal.slice_bounds-few_line_feeds-end
slice_bounds-few_line_feeds-end g c =
    let s = c.self.inside in
    let n = c.requires.0 in
    let e : c.args.len ≡ bytes_of n (chars (drop s.start (string_bytes s.text))) = c.requires.1 ∙ ap (λ v. bytes_of n v.text) (sym c.self.view_is) in
    let l = advance_within (string_bytes s.text) s.start n c.args.len s.pending.items _ _ c.self.invariant.held (IsUtf8-string_bytes s.text) e in
    let m : s.start + c.args.len ≤ length c.as_bytes.result.now = subst (λ b. s.start + c.args.len ≤ length b) (sym c.as_bytes.ensures.value) l in
    search rules

pub move_on-requires : goal.move_on-requires
move_on-requires g c =
    let s = c.self.inside in
    let n = c.requires.0 in
    let e : c.args.len ≡ bytes_of n (chars (drop s.start (string_bytes s.text))) = c.requires.1 ∙ ap (λ v. bytes_of n v.text) (sym c.self.view_is) in
    let bytes = c.as_bytes.ensures.value in
    let feeds = c.few_line_feeds-feeds.ensures ∙ ap (λ b. count_by (λ x. x == 10) (take (s.start + c.args.len - s.start) (drop s.start b))) bytes in (
      n,
      c.requires.1,
      feeds ∙ (feeds_advanced (string_bytes s.text) s.start n c.args.len s.pending.items _ _ c.self.invariant.held (IsUtf8-string_bytes s.text) e
          ∙ ap (λ v. count_by (λ x. x == 10) (take n v.text)) c.self.view_is),
    )
