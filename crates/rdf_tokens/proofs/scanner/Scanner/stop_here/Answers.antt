use Rattle.rdf_tokens.proofs.Prelude.{◌≡◌, ℕ, ◌+◌, ◌==◌, List, count_by, drop, length, refl, sym, ap, ◌∙◌, IsUtf8-string_bytes, string_bytes, Reason, BadUtf8, Place, fault_place, beyond}
use Rattle.rdf_tokens.specs.Scans.{place_of}
use Rattle.rdf_tokens.proofs.Inside.{unread_of}
use Rattle.rdf_tokens.proofs.HeldLemmas.{place_after}
use Rattle.rdf_tokens.proofs.scanner.Scanner.stop_here.Goals.{in-BadUtf8, in_default}
use Rattle.rdf_tokens.proofs.scanner.Scanner.stop_here.Goals as goal

at_rest : (p : Place) {bytes rest : List ℕ} {n : ℕ} → bytes ≡ rest → n ≡ count_by (λ b. b == 10) bytes →
    (let q : Place = record { offset = p.offset + length bytes; line = p.line + n } in q) ≡ beyond p rest
at_rest p e f = cc

here : (r : Reason) → (r ≡ BadUtf8 → ⊥) → (p : Place) (w : List ℕ) → fault_place r p w ≡ p
here BadUtf8 n p w = absurd (n refl)
here r n p w = refl

pub returns-clause-place : goal.returns-clause-place
returns-clause-place g c =
    let s = c.self.inside in
    let v = unread_of s in
    let all : place_of c.match-reason.result ≡ fault_place c.args.reason v.place v.text = elim c.match-reason.branch [
      | in-BadUtf8 w ↦
          ap place_of w.result-is
          ∙ (at_rest v.place (w.range_from-rest.ensures.value ∙ ap (drop s.start) w.as_str.ensures.value)
          (w.line_feeds.ensures ∙ ap (count_by (λ b. b == 10)) w.as_bytes.ensures.value)
          ∙ (place_after (string_bytes s.text) s.start s.pending.items _ _ c.self.invariant.held (IsUtf8-string_bytes s.text)
          ∙ ap (λ r. fault_place r v.place v.text) (sym w.in-BadUtf8.is)))
      | in_default w ↦ ap place_of w.result-is ∙ sym (here c.args.reason w.in_default.not-BadUtf8 v.place v.text)
    ] in
    all ∙ ap (λ v. fault_place c.args.reason v.place v.text) c.self.view_is
