use Rattle.rdf_diagnostics.proofs.Prelude.{◌≡◌, ◌∙◌, ◌+◌, arith, length, subst, take, false, IsCharBoundary, reading_from, IsSeen}
use Rattle.rdf_diagnostics.proofs.SightLemmas.{by_equal, IsLongestTo, longest_all, longest_next, longest_none, longest_settled, longest_within, only_open}
use Rattle.rdf_diagnostics.proofs.sight.longest_open.Goals.{then-is_char_boundary+in_ok-see_to-2+in-Open, else-is_char_boundary}
use Rattle.rdf_diagnostics.proofs.sight.longest_open.Goals as goal

pub ends-init : goal.ends-init
ends-init g c =
    let first = c.in_ok-front.front.scanner in
    let rest = c.args.rest.now in
    let begun = c.in_ok-front.ensures in
    let e = c.in_ok-see_to.ensures in
    let s = c.in_ok-see_to.field-0 in
    let seen : IsSeen (reading_from c.args.dialect c.args.limit (take c.args.known rest) false) s =
    by_equal c.args.dialect first.dialect c.args.limit first.limit
    (λ d m. IsSeen (reading_from d m (take c.args.known rest) false) s) begun.dialect begun.limit e.seen in
    record {
      dialect = e.same.dialect ∙ begun.dialect;
      limit = e.same.limit ∙ begun.limit;
      taken = e.taken (only_open (reading_from c.args.dialect c.args.limit (take c.args.known rest) false) s seen c.requires.none);
      longest = longest_none c.args.dialect c.args.limit rest;
    }

pub returns-in_default : goal.returns-in_default
returns-in_default g c =
    let l = c.ends.invariant in
    let s = c.in_ok-see_to-2.field-0 in
    longest_settled c.args.dialect c.args.limit c.args.rest.now c.ends.i c.ends.longest s
    (by_equal c.args.dialect c.ends.front.scanner.dialect c.args.limit c.ends.front.scanner.limit
    (λ d m. IsSeen (reading_from d m (take (c.ends.i + 1) c.args.rest.now) false) s) l.dialect l.limit c.in_ok-see_to-2.ensures.seen)
    c.in_default.not-Open l.longest

pub ends-preserved : goal.ends-preserved
ends-preserved g c = elim c.if-is_char_boundary.branch [
  | then-is_char_boundary+in_ok-see_to-2+in-Open w ↦
      let l = c.ends.invariant in
      let e = w.in_ok-see_to-2.ensures in
      let s = w.in_ok-see_to-2.field-0 in
      let none = subst (IsSeen (reading_from c.args.dialect c.args.limit (take (c.ends.i + 1) c.args.rest.now) false)) w.in-Open.is
      (by_equal c.args.dialect c.ends.front.scanner.dialect c.args.limit c.ends.front.scanner.limit
      (λ d m. IsSeen (reading_from d m (take (c.ends.i + 1) c.args.rest.now) false) s) l.dialect l.limit e.seen) in
      rw (w.front-is, w.longest-is) (record {
        dialect = e.same.dialect ∙ l.dialect;
        limit = e.same.limit ∙ l.limit;
        taken = e.taken w.in-Open.is;
        longest = longest_next c.args.dialect c.args.limit c.args.rest.now c.good_front.result.text.now (c.ends.i + 1) c.good_front.ensures.text (omega arith)
            (c.is_char_boundary.ensures.test.0 w.if-is_char_boundary.true) none;
      })
  | else-is_char_boundary w ↦
      let l = c.ends.invariant in
      let b : IsCharBoundary c.good_front.result.text.now (c.ends.i + 1) → ⊥ =
      λ b. let z = c.is_char_boundary.ensures.test.1 b in let y = w.if-is_char_boundary.false in (cc) in
      rw (w.front-is, w.longest-is) (record {
        dialect = l.dialect;
        limit = l.limit;
        taken = l.taken;
        longest = longest_within c.args.dialect c.args.limit c.args.rest.now c.good_front.result.text.now c.ends.i c.ends.longest c.good_front.ensures.text
            (omega arith) b l.longest;
      })
]

pub returns : goal.returns
returns g c =
    let text = c.good_front.result.text.now in
    let all : c.ends.i ≡ length text = let most = c.ends.auto.i-end in let test = c.ends-test.false in omega arith in
    longest_all c.args.dialect c.args.limit c.args.rest.now text c.ends.longest c.good_front.ensures.text
    (subst (λ i. IsLongestTo c.args.dialect c.args.limit c.args.rest.now i c.ends.longest) all c.ends.invariant.longest)
