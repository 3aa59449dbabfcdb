-- To move over characters of which it is known how many line feeds they are: the place and the scanner's fields stay right.
use Rattle.rdf_tokens.proofs.Prelude.{rules, arith, ◌≡◌, ◌+◌, ℕ, List, ◌-◌, ◌≤◌, ◌==◌, count_by, drop, length, take, sym, ap, ◌∙◌, subst, IsUtf8-string_bytes, chars, string_bytes, Place, past, Held, Unread, Walked, moved, bytes_of}
use Rattle.rdf_tokens.specs.declared.scanner.Scanner.TheInside.{Inside}
use Rattle.rdf_tokens.proofs.Inside.{unread_of}
use Rattle.rdf_tokens.proofs.HeldLemmas.{feeds_advanced, held_advanced, place_advanced, text_advanced, advance_within}
use Rattle.rdf_tokens.proofs.NoNamesLemmas.{none_advanced}
use Rattle.rdf_tokens.proofs.scanner.Scanner.move_on.Goals as goal

-- the bytes from the scanner's place on that are not read
abbrev rest_of : {Z : Type 0} → Inside Z → List ℕ
rest_of s = drop s.start (string_bytes s.text)

-- A scanner's fields, as its caller sees them, before so many characters of so many bytes and line feeds.
module _ {Z : Type 0} {place taken : Place} (s : Inside Z) (v : Unread) (same : unread_of s ≡ v)
    (held : Held (string_bytes s.text) s.start s.pending.items place taken) (n len : ℕ) (size : len ≡ bytes_of n v.text) where
  bytes : len ≡ bytes_of n (chars (rest_of s))
  bytes = size ∙ ap (λ v. bytes_of n v.text) (sym same)

  within : s.start + len ≤ length (string_bytes s.text)
  within = advance_within (string_bytes s.text) s.start n len s.pending.items place taken held (IsUtf8-string_bytes s.text) bytes

  text : chars (drop (s.start + len) (string_bytes s.text)) ≡ drop n (chars (rest_of s))
  text = text_advanced (string_bytes s.text) s.start n len s.pending.items place taken held (IsUtf8-string_bytes s.text) bytes

  module _ (feeds : ℕ) (count : feeds ≡ count_by (λ x. x == 10) (take n v.text)) where
    fed : feeds ≡ count_by (λ x. x == 10) (take (s.start + len - s.start) (rest_of s))
    fed = count ∙ (ap (λ v. count_by (λ x. x == 10) (take n v.text)) (sym same)
        ∙ sym (feeds_advanced (string_bytes s.text) s.start n len s.pending.items place taken held (IsUtf8-string_bytes s.text) bytes))

    after : Held (string_bytes s.text) (s.start + len) s.pending.items (record { offset = place.offset + len; line = place.line + feeds }) taken
    after = held_advanced (string_bytes s.text) s.start n len s.pending.items place taken held (IsUtf8-string_bytes s.text) bytes feeds fed

pub overflow_add-self : goal.overflow_add-self
overflow_add-self g c =
    let s = c.self.inside in
    let r = c.requires in
    let held = after s _ c.self.view_is c.self.invariant.held r.0 c.args.len r.1 c.args.feeds r.2 in
    let lines = held.lines in
    let last = held.within in
    let most = held.most in
    let l = within s _ c.self.view_is c.self.invariant.held r.0 c.args.len r.1 in
    let k = s.text.bytes.ok.0 in
    search rules

pub overflow_add-self-2 : goal.overflow_add-self-2
overflow_add-self-2 g c =
    let s = c.self.inside in
    let r = c.requires in
    let held = after s _ c.self.view_is c.self.invariant.held r.0 c.args.len r.1 c.args.feeds r.2 in
    let lines = held.lines in
    let last = held.within in
    let most = held.most in
    let l = within s _ c.self.view_is c.self.invariant.held r.0 c.args.len r.1 in
    let k = s.text.bytes.ok.0 in
    search rules

pub overflow_add-self-3 : goal.overflow_add-self-3
overflow_add-self-3 g c =
    let s = c.self.inside in
    let r = c.requires in
    let held = after s _ c.self.view_is c.self.invariant.held r.0 c.args.len r.1 c.args.feeds r.2 in
    let lines = held.lines in
    let last = held.within in
    let most = held.most in
    let l = within s _ c.self.view_is c.self.invariant.held r.0 c.args.len r.1 in
    let k = s.text.bytes.ok.0 in
    search rules

pub invariant_of-self : goal.invariant_of-self
invariant_of-self g c =
    let s = c.self.inside in
    let r = c.requires in
    let bounded = c.self.invariant.bounded in
    record {
      held = after s _ c.self.view_is c.self.invariant.held r.0 c.args.len r.1 c.args.feeds r.2;
      walked = subst (Walked s.dialect (drop (s.start + c.args.len) (string_bytes s.text))) (sym c.forget.ensures) tt;
      no_names = none_advanced s.dialect (string_bytes s.text) s.start c.args.len s.no_names c.self.invariant.no_names;
      bounded = omega arith;
    }

moved_same : (v : Unread) {p q : Place} {t u : List ℕ} → p ≡ q → t ≡ u → moved v p v.begun v.comment t ≡ moved v q v.begun v.comment u
moved_same v e f = cc

pub returns : goal.returns
returns g c = λ m f.
    let s = c.self.inside in
    let r = c.requires in
    let held = c.self.invariant.held in
    let feeds = fed s _ c.self.view_is held r.0 c.args.len r.1 c.args.feeds r.2 in
    let e = bytes s _ c.self.view_is held m c.args.len f in
    let place = place_advanced (string_bytes s.text) s.start m c.args.len s.pending.items _ _ held (IsUtf8-string_bytes s.text) e c.args.feeds feeds in
    moved_same (unread_of s) place (text s _ c.self.view_is held m c.args.len f)
    ∙ ap (λ v. moved v (past v.place (take m v.text)) v.begun v.comment (drop m v.text)) c.self.view_is
