-- To give a token and move over it: its bytes are in the text, end between characters, and the place moves with its line feeds.
use Rattle.rdf_tokens.proofs.Prelude.{rules, arith, refl, false, ◌≡◌, ◌+◌, ◌≤◌, ℕ, List, ◌-◌, ◌==◌, count_by, drop, take, length, sym, ap, ◌∙◌, subst, IsUtf8-drop, IsUtf8-string_bytes, encodes-chars, encode_utf8_all, chars, IsCharBoundary, IsUtf8, string_bytes, Kind, Place, Token, past, Unread, Walked, moved, IsGiven, GivesBytes, KnowsColon, bytes_of}
use Rattle.rdf_tokens.proofs.Inside.{unread_of}
use Rattle.rdf_tokens.proofs.HeldLemmas.{boundary_advanced, front_advanced, held_advanced, place_advanced, text_advanced, advance_within, feeds_advanced}
use Rattle.rdf_tokens.proofs.NoNamesLemmas.{none_advanced}
use Rattle.rdf_tokens.proofs.scanner.Scanner.give.Goals as goal

pub overflow_add-end : goal.overflow_add-end
overflow_add-end g c =
    let s = c.self.inside in
    let n = c.requires.bytes.0 in
    let e : c.args.len ≡ bytes_of n (chars (drop s.start (string_bytes s.text))) = c.requires.bytes.1 ∙ ap (λ v. bytes_of n v.text) (sym c.self.view_is) in
    let l = advance_within (string_bytes s.text) s.start n c.args.len s.pending.items _ _ c.self.invariant.held (IsUtf8-string_bytes s.text) e in
    let k = s.text.bytes.ok.0 in
    search rules

pub slice_bounds-feeds_of-end : goal.slice_bounds-feeds_of-end
slice_bounds-feeds_of-end g c =
    let s = c.self.inside in
    let n = c.requires.bytes.0 in
    let e : c.args.len ≡ bytes_of n (chars (drop s.start (string_bytes s.text))) = c.requires.bytes.1 ∙ ap (λ v. bytes_of n v.text) (sym c.self.view_is) in
    let l = advance_within (string_bytes s.text) s.start n c.args.len s.pending.items _ _ c.self.invariant.held (IsUtf8-string_bytes s.text) e in
    let m : s.start + c.args.len ≤ length c.as_bytes.result.now = subst (λ b. s.start + c.args.len ≤ length b) (sym c.as_bytes.ensures.value) l in
    search rules

pub feeds_of-feeds-requires : goal.feeds_of-feeds-requires
feeds_of-feeds-requires g c = λ f.
    let s = c.self.inside in
    let n = c.requires.bytes.0 in
    let e : c.args.len ≡ bytes_of n (chars (drop s.start (string_bytes s.text))) = c.requires.bytes.1 ∙ ap (λ v. bytes_of n v.text) (sym c.self.view_is) in
    let none : count_by (λ x. x == 10) (take n (chars (drop s.start (string_bytes s.text)))) ≡ 0 =
    ap (λ v. count_by (λ x. x == 10) (take n v.text)) c.self.view_is ∙ c.requires.bytes.2 f in
    ap (λ b. count_by (λ x. x == 10) (take (s.start + c.args.len - s.start) (drop s.start b))) c.as_bytes.ensures.value
    ∙ (feeds_advanced (string_bytes s.text) s.start n c.args.len s.pending.items _ _ c.self.invariant.held (IsUtf8-string_bytes s.text) e ∙ none)

pub invariant_of-self : goal.invariant_of-self
invariant_of-self g c =
    let s = c.self.inside in
    let n = c.requires.bytes.0 in
    let e : c.args.len ≡ bytes_of n (chars (drop s.start (string_bytes s.text))) = c.requires.bytes.1 ∙ ap (λ v. bytes_of n v.text) (sym c.self.view_is) in
    let bytes = c.as_bytes.ensures.value in
    let feeds = c.feeds_of-feeds.ensures ∙ ap (λ b. count_by (λ x. x == 10) (take (s.start + c.args.len - s.start) (drop s.start b))) bytes in
    let held = held_advanced (string_bytes s.text) s.start n c.args.len s.pending.items _ _ c.self.invariant.held
    (IsUtf8-string_bytes s.text) e c.feeds_of-feeds.result feeds in
    let bounded = c.self.invariant.bounded in
    rw c.add_feeds.ensures (record {
      held = held;
      walked = subst (Walked s.dialect (drop (s.start + c.args.len) (string_bytes s.text)))
          (sym c.forget.ensures) tt;
      no_names =
          none_advanced s.dialect (string_bytes s.text) s.start c.args.len s.no_names c.self.invariant.no_names;
      bounded = omega arith;
    })

pub range-requires-clause-end_boundary : goal.range-requires-clause-end_boundary
range-requires-clause-end_boundary g c =
    let s = c.self.inside in
    let n = c.requires.bytes.0 in
    let e : c.args.len ≡ bytes_of n (chars (drop s.start (string_bytes s.text))) = c.requires.bytes.1 ∙ ap (λ v. bytes_of n v.text) (sym c.self.view_is) in
    subst (λ b. IsCharBoundary b (s.start + c.args.len)) (sym c.as_str.ensures.value)
    (boundary_advanced (string_bytes s.text) s.start n c.args.len s.pending.items _ _ c.self.invariant.held (IsUtf8-string_bytes s.text) e)

same_given : (v : Unread) (k : Kind) (n : ℕ) {p : Place} {t u : List ℕ} → t ≡ take n v.text → p ≡ past v.place (take n v.text) → u ≡ drop n v.text →
    IsGiven v k n (record { kind = k; text = t; at = v.place }) (moved v p v.begun false u)
same_given v k n e p f = record { token = cc; moved_on = cc }

given_too : {v w new : Unread} {k : Kind} {n : ℕ} {t : Token} → v ≡ w → IsGiven v k n t new → IsGiven w k n t new
given_too {v} {w} {new} {k} {n} {t} e h = subst (λ v. IsGiven v k n t new) e h

-- the token's bytes are those of which the colon is known
colon_of : (text front : List ℕ) (start len colon : ℕ) → IsUtf8 text → IsCharBoundary text start → front ≡ take (start + len - start) (drop start text) →
    KnowsColon (take len (encode_utf8_all (chars (drop start text)))) colon → KnowsColon front colon
colon_of text front start len colon u b e h =
    let n : start + len - start ≡ len = omega arith in
    subst (λ w. KnowsColon w colon) (ap (take len) (encodes-chars (drop start text) (IsUtf8-drop text start u b))
    ∙ sym (e ∙ ap (λ k. take k (drop start text)) n)) h

pub returns : goal.returns
returns g c =
    let s = c.self.inside in
    let bytes = c.as_bytes.ensures.value in
    let front = c.range.ensures.value ∙ ap (λ b. take (s.start + c.args.len - s.start) (drop s.start b)) c.as_str.ensures.value in
    let given : GivesBytes c.args.self.now c.args.kind c.args.len _ _ = λ n e.
    let e : c.args.len ≡ bytes_of n (chars (drop s.start (string_bytes s.text))) = e ∙ ap (λ v. bytes_of n v.text) (sym c.self.view_is) in
    let feeds = c.feeds_of-feeds.ensures ∙ ap (λ b. count_by (λ x. x == 10) (take (s.start + c.args.len - s.start) (drop s.start b))) bytes in
    let place = place_advanced (string_bytes s.text) s.start n c.args.len s.pending.items _ _ c.self.invariant.held
    (IsUtf8-string_bytes s.text) e c.feeds_of-feeds.result feeds in
    let text = text_advanced (string_bytes s.text) s.start n c.args.len s.pending.items _ _ c.self.invariant.held (IsUtf8-string_bytes s.text) e in
    let chars_are = ap chars front ∙ front_advanced (string_bytes s.text) s.start n c.args.len s.pending.items _ _ c.self.invariant.held
    (IsUtf8-string_bytes s.text) e in
    let all = same_given (unread_of s) c.args.kind n chars_are place text in
    given_too c.self.view_is all in
    let colon = colon_of (string_bytes s.text) c.range.result.now s.start c.args.len c.args.colon
    (IsUtf8-string_bytes s.text) c.self.invariant.held.boundary front
    (subst (λ v. KnowsColon (take c.args.len (encode_utf8_all v.text)) c.args.colon) (sym c.self.view_is) c.requires.colon) in
    rw c.add_feeds.ensures ((refl, (λ _. tt), (given, colon)), tt)
