use Rattle.rdf_tokens.proofs.Prelude.{◌≡◌, ◌<◌, ◌≤◌, ◌+◌, false, min, length, take, ap, sym, ◌∙◌, subst, ⊎_elim, arith, eqb-true, cases_lt, length-take-le, IsUtf8-string_bytes, string_bytes, most_bytes, most_unread, unread_bytes, fitting, at_once}
use Rattle.std.proofs.Math.Nat.{min-le_left}
use Rattle.rdf_tokens.proofs.Inside.{unread_of}
use Rattle.rdf_tokens.proofs.HeldLemmas.{unread_size}
use Rattle.rdf_tokens.proofs.ReadLemmas.{takes_bytes}
use Rattle.rdf_tokens.proofs.RoomLemmas.{at_once-some, fitting-within, fitting-most, fitting-room, fitting-some}
use Rattle.rdf_tokens.proofs.scanner.Scanner.push.Goals.{else-self-eq-MOST_BYTES-via-then-self-eq-MOST_BYTES+else-not-is_empty, else-self-eq-MOST_BYTES-via-else-self-eq-MOST_BYTES}
use Rattle.rdf_tokens.proofs.scanner.Scanner.push.Goals as goal

pub take_in-requires-clause-room : goal.take_in-requires-clause-room
take_in-requires-clause-room g c =
    let s = c.self.inside in
    let old = c.args.self.now in
    let piece = c.args.piece.now in
    let size = unread_size (string_bytes s.text) s.start s.pending.items c.self.invariant.held.boundary (IsUtf8-string_bytes s.text) in
    let bounded = c.self.invariant.bounded in
    let here : unread_bytes (unread_of s) ≤ most_unread s.limit = omega (arith, size) in
    let unread : unread_bytes old ≤ most_unread old.limit = subst (λ v. unread_bytes v ≤ most_unread v.limit) c.self.view_is here in
    let most = min (length piece) (at_once old.limit) in
    let room : c.room-len.result ≡ fitting old most = c.room-len.ensures
    ∙ ap (fitting old) (c.min.ensures ∙ ap (min (length piece)) (c.at_once.ensures ∙ ap (λ v. at_once v.limit) c.self.view_is)) in
    let fits = fitting-within old most in
    let less = min-le_left (length piece) (at_once old.limit) in
    let part : length (take c.room-len.result piece) ≡ c.room-len.result = length-take-le c.room-len.result piece (omega (arith, room)) in
    omega (arith, part, room, fitting-room old most unread)

pub returns-in-Ok : goal.returns-in-Ok
returns-in-Ok g c =
    let old = c.args.self.now in
    let piece = c.args.piece.now in
    let n = c.room-len.result in
    let stopped : old.stopped ≡ false = ap (λ v. v.stopped) (sym c.self.view_is) ∙ c.if-self.false in
    let ended : old.ended ≡ false = ap (λ v. v.ended) (sym c.self.view_is) ∙ c.if-self-2.false in
    let before : old.taken.offset ≡ c.self.inside.taken = ap (λ v. v.taken.offset) (sym c.self.view_is) in
    let most : old.taken.offset ≤ most_bytes = let m = c.self.invariant.held.most in omega (arith, before) in
    let unfilled : 0 < length piece → old.taken.offset < most_bytes = λ l. elim c.else-self-eq-MOST_BYTES.branch [
      | else-self-eq-MOST_BYTES-via-then-self-eq-MOST_BYTES+else-not-is_empty w ↦ let e : length piece ≡ 0 =
          eqb-true (length piece) 0 (sym w.is_empty.ensures ∙ w.if-not-is_empty.false) in absurd (omega arith)
      | else-self-eq-MOST_BYTES-via-else-self-eq-MOST_BYTES w ↦
          ⊎_elim (λ x. x) (λ x. absurd (w.if-self-eq-MOST_BYTES.false (omega (arith, before)))) (cases_lt old.taken.offset most_bytes)
    ] in
    let some = min (length piece) (at_once old.limit) in
    let room : n ≡ fitting old some = c.room-len.ensures
    ∙ ap (fitting old) (c.min.ensures ∙ ap (min (length piece)) (c.at_once.ensures ∙ ap (λ v. at_once v.limit) c.self.view_is)) in
    let progress : unread_bytes old < most_unread old.limit → 0 < length piece → 0 < n =
    λ r l. subst (λ k. 0 < k) (sym room) (fitting-some old some (at_once-some old.limit (length piece) l) (unfilled l) r) in
    let within : n ≤ length piece = let a = fitting-within old some in let b = min-le_left (length piece) (at_once old.limit) in omega (arith, room) in
    let far : old.taken.offset + n ≤ most_bytes = let a = fitting-most old some most in omega (arith, room) in
    takes_bytes old _ piece n stopped ended within room progress far c.in-Ok.ensures.ok
