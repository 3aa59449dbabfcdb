use Rattle.rdf_tokens.proofs.Prelude.{◌≡◌, ℕ, ◌+◌, ◌-◌, ◌++◌, drop, length, sym, ap, ◌∙◌, subst, ◌≤◌, List, [], Bool, cond, arith, cond-true, cond-false, IsUtf8-string_bytes, string_bytes, Place, Unread, good_bytes, rest_of_bytes, is_broken, grown, lengthened, Held, Holds, all_bytes, most_bytes, most_unread, unread_bytes}
use Rattle.rdf_tokens.specs.Moves.{counted}
use Rattle.rdf_tokens.specs.declared.scanner.Scanner.TheInside.{Inside}
use Rattle.rdf_tokens.proofs.Inside.{unread_at, unread_of}
use Rattle.rdf_tokens.proofs.HeldLemmas.{held_counted, held_grown, bounded_grown, text_grown, size_of_rest}
use Rattle.rdf_tokens.proofs.WalkLemmas.{walked_grown}
use Rattle.rdf_tokens.proofs.scanner.Scanner.take_in.Goals.{then-not-self+in_ok-drop_front+in_ok-self-inside, else-not-self}
use Rattle.rdf_tokens.proofs.scanner.Scanner.take_in.Goals as goal

module _ {Z : Type 0} where
  -- the place after a piece, of which so many bytes are line feeds
  abbrev after : Inside Z → List ℕ → ℕ → Place
  after s piece feeds = record { offset = s.taken + length piece; line = s.last_line + feeds }

  abbrev HeldAt : Inside Z → Place → Type 0
  HeldAt s p = Held (string_bytes s.text) s.start s.pending.items (record { offset = s.offset; line = s.line }) p

  abbrev HoldsAt : Inside Z → Place → Type 0
  HoldsAt s p = Holds s.dialect s.limit (string_bytes s.text) s.start s.walk s.no_names s.pending.items (record { offset = s.offset; line = s.line }) p

abbrev with_fields : Unread → ℕ → List ℕ → List ℕ → Bool → Place → Unread
with_fields v held text pending broken taken = record v { text = text; pending = pending; broken = broken; taken = taken; held = held }

same_fields : (v : Unread) (n : ℕ) {t t' p p' : List ℕ} {b b' : Bool} {q q' : Place} → t ≡ t' → p ≡ p' → b ≡ b' → q ≡ q' →
    with_fields v n t p b q ≡ with_fields v n t' p' b' q'
same_fields v n e f h k = cc

-- what has come, and how much is held
abbrev holding : ℕ → Unread → Unread
holding n v = record v { held = n }

pub invariant_of-self-2 : goal.invariant_of-self-2
invariant_of-self-2 g c =
    let s = c.self.inside in
    let piece = c.args.piece.now in
    let most : s.taken + length piece ≤ most_bytes = subst (λ v. v.taken.offset + length piece ≤ most_bytes) (sym c.self.view_is) c.requires.most in
    let room : length (string_bytes s.text) - s.start + length s.pending.items + length piece ≤ most_unread s.limit =
    let r = subst (λ v. unread_bytes v + length piece ≤ most_unread v.limit) (sym c.self.view_is) c.requires.room in
    omega (arith, size_of_rest (string_bytes s.text) s.start c.self.invariant.held.boundary (IsUtf8-string_bytes s.text)) in
    let P : Inside _ → Type 0 = λ i. HoldsAt i (after i piece c.line_feeds.result) in
    elim c.if-not-self.branch [
      | then-not-self+in_ok-drop_front+in_ok-self-inside w ↦
          let new : string_bytes w.add_piece.new.text ≡ drop s.start (string_bytes s.text) ++ good_bytes (s.pending.items ++ piece) =
          w.in_ok-self-inside.ensures.text ∙ ap (λ x. x ++ good_bytes (s.pending.items ++ piece)) w.in_ok-drop_front.ensures.ok in
          let kept : w.add_piece.new.pending.items ≡ cond (is_broken (s.pending.items ++ piece)) [] (rest_of_bytes (s.pending.items ++ piece)) =
          w.in_ok-self-inside.ensures.pending ∙ ap (λ b. cond b [] (rest_of_bytes (s.pending.items ++ piece))) w.in_ok-self-inside.ensures.broken in
          let held = subst (λ n. Held (string_bytes w.add_piece.new.text) 0 w.add_piece.new.pending.items
          (record { offset = s.offset; line = s.line }) (after s piece n)) (sym c.line_feeds.ensures)
          (held_grown (string_bytes s.text) (string_bytes w.add_piece.new.text) s.start s.pending.items w.add_piece.new.pending.items piece
          _ _ c.self.invariant.held most (IsUtf8-string_bytes w.add_piece.new.text) new kept) in
          let walked = walked_grown s.dialect (string_bytes s.text) (string_bytes w.add_piece.new.text) s.start s.walk
          (s.pending.items ++ piece) (IsUtf8-string_bytes s.text) c.self.invariant.held.boundary new c.self.invariant.walked in
          let bounded = bounded_grown (string_bytes s.text) (string_bytes w.add_piece.new.text) s.start s.pending.items
          w.add_piece.new.pending.items piece (most_unread s.limit) new kept room in
          subst P (sym w.self-inside-is) (record { held = held; walked = walked; no_names = tt; bounded = bounded })
      | else-not-self w ↦
          let held = subst (λ n. HeldAt s (after s piece n)) (sym c.line_feeds.ensures)
          (held_counted (string_bytes s.text) s.start s.pending.items piece _ _ c.self.invariant.held most) in
          subst P (sym w.self-inside-is) (record {
            held = held;
            walked = c.self.invariant.walked;
            no_names = c.self.invariant.no_names;
            bounded = c.self.invariant.bounded;
          })
    ]

pub returns-clause-ok : goal.returns-clause-ok
returns-clause-ok g c =
    let s = c.self.inside in
    let piece = c.args.piece.now in
    let v : Unread = unread_of s in
    let held : Inside _ → ℕ = λ i. all_bytes (string_bytes i.text) i.pending.items in
    let P : Inside _ → Type 0 = λ i. unread_at i (after i piece c.line_feeds.result) ≡ holding (held i) (grown v piece) in
    let i = c.if-not-self.self-inside in
    let all : unread_at i (after i piece c.line_feeds.result) ≡ holding (held i) (grown v piece) = elim c.if-not-self.branch [
      | then-not-self+in_ok-drop_front+in_ok-self-inside w ↦
          let new : string_bytes w.add_piece.new.text ≡ drop s.start (string_bytes s.text) ++ good_bytes (s.pending.items ++ piece) =
          w.in_ok-self-inside.ensures.text ∙ ap (λ x. x ++ good_bytes (s.pending.items ++ piece)) w.in_ok-drop_front.ensures.ok in
          let text = text_grown (string_bytes s.text) (string_bytes w.add_piece.new.text) s.start s.pending.items piece _ _
          c.self.invariant.held (IsUtf8-string_bytes s.text) new in
          let kept : w.add_piece.new.pending.items ≡ cond (is_broken (s.pending.items ++ piece)) [] (rest_of_bytes (s.pending.items ++ piece)) =
          w.in_ok-self-inside.ensures.pending ∙ ap (λ b. cond b [] (rest_of_bytes (s.pending.items ++ piece))) w.in_ok-self-inside.ensures.broken in
          subst P (sym w.self-inside-is) (same_fields v (all_bytes (string_bytes w.add_piece.new.text) w.add_piece.new.pending.items) text
          kept w.in_ok-self-inside.ensures.broken (ap (λ n. after s piece n) c.line_feeds.ensures)
          ∙ ap (holding (all_bytes (string_bytes w.add_piece.new.text) w.add_piece.new.pending.items))
          (sym (cond-false s.broken (counted v piece) (lengthened v piece) w.if-not-self.true)))
      | else-not-self w ↦
          subst P (sym w.self-inside-is)
          (ap (λ n. unread_at s (after s piece n)) c.line_feeds.ensures
          ∙ ap (holding (held s)) (sym (cond-true s.broken (counted v piece) (lengthened v piece) w.if-not-self.false)))
    ] in
    all ∙ ap (λ v. holding (held i) (grown v piece)) c.self.view_is
