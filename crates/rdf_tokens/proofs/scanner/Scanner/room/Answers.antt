use Rattle.rdf_tokens.proofs.Prelude.{◌≡◌, ◌-◌, min, ap, ap₂, sym, ◌∙◌, arith, IsUtf8-string_bytes, string_bytes, most_bytes, unread_bytes, fitting}
use Rattle.rdf_tokens.proofs.Inside.{unread_of}
use Rattle.rdf_tokens.proofs.HeldLemmas.{unread_size}
use Rattle.rdf_tokens.proofs.RoomLemmas.{room-fits, room-same}
use Rattle.rdf_tokens.proofs.scanner.Scanner.room.Goals as goal

pub overflow_sub-free : goal.overflow_sub-free
overflow_sub-free g c =
    let s = c.self.inside in
    let v = unread_of s in
    let unread : c.pending.result ≡ unread_bytes v = c.pending.ensures.count ∙ ap unread_bytes (sym c.self.view_is) in
    let size = unread_size (string_bytes s.text) s.start s.pending.items c.self.invariant.held.boundary (IsUtf8-string_bytes s.text) in
    let within = c.self.invariant.held.within in
    let bounded = c.self.invariant.bounded in
    let fits = room-fits s.limit (unread_bytes v) s.taken (omega (arith, size)) (omega (arith, size)) c.self.invariant.held.most in
    omega (arith, unread, fits, c.most_unread.ensures)

pub returns : goal.returns
returns g c =
    let s = c.self.inside in
    let v = unread_of s in
    let len = c.args.len in
    let unread : c.pending.result ≡ unread_bytes v = c.pending.ensures.count ∙ ap unread_bytes (sym c.self.view_is) in
    let size = unread_size (string_bytes s.text) s.start s.pending.items c.self.invariant.held.boundary (IsUtf8-string_bytes s.text) in
    let within = c.self.invariant.held.within in
    c.min-2.ensures
    ∙ (ap (min len) c.min.ensures
    ∙ (ap (λ k. min len (min (most_bytes - s.taken) k)) (ap₂ (λ a b. a - b) c.most_unread.ensures unread)
    ∙ (room-same s.limit (unread_bytes v) s.taken len (omega (arith, size)) c.self.invariant.held.most ∙ ap (λ v. fitting v len) c.self.view_is)))
