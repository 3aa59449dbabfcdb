-- Each escape of the row was put after those before it.
use Rattle.rdf_terms.proofs.Prelude.{◌≤◌, IsUtf8, ap, arith, drop, length, refl, subst, sym, string_bytes, IsUtf8-string_bytes, inside_of, IsRead, leads, outside}
use Rattle.rdf_terms.proofs.EscapesLemmas.{put_one, put_more}
use Rattle.rdf_terms.proofs.values.put_row.Goals as goal

pub loop-meant-init : goal.loop-meant-init
loop-meant-init g c = record { from = omega arith; within = c.requires.within; utf8 = c.requires.utf8; value = refl }

pub short_escape-requires-clause-within : goal.short_escape-requires-clause-within
short_escape-requires-clause-within g c = subst (λ w. c.loop-meant.at ≤ length w) (sym c.as_bytes.ensures.value) c.loop-meant.invariant.within

pub short_escape-requires-clause-utf8 : goal.short_escape-requires-clause-utf8
short_escape-requires-clause-utf8 g c = subst (λ w. IsUtf8 (drop c.loop-meant.at w)) (sym c.as_bytes.ensures.value) c.loop-meant.invariant.utf8

pub loop-meant-smaller : goal.loop-meant-smaller
loop-meant-smaller g c =
    let on = c.in-Some.ensures.on in
    let within = c.in-Some.ensures.read.within in
    omega (arith, on, within, ap length c.as_bytes.ensures.value)

pub loop-meant-preserved : goal.loop-meant-preserved
loop-meant-preserved g c =
    let i = inside_of c.args.inside in
    let l = c.loop-meant in
    let text = c.args.text.now in
    let read = subst (λ w. IsRead i (leads outside) w l.at c.in-Some.meant c.in-Some.next) c.as_bytes.ensures.value c.in-Some.ensures.read in
    put_more i text (string_bytes c.args.out.now) (string_bytes l.out) _ c.args.from l.at c.in-Some.next l.invariant
    (put_one i text (string_bytes l.out) _ l.at c.in-Some.meant c.in-Some.next read (IsUtf8-string_bytes l.out) c.in_ok-push_char.ensures)

pub returns : goal.returns
returns g c = c.loop-meant.invariant
