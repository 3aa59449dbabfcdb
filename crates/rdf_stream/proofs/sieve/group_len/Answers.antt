use Rattle.rdf_stream.proofs.Prelude.{◌≡◌, ◌+◌, ◌++◌, ◌<◌, true, suc, length, take, drop, ap, subst, ◌∙◌, arith, slice_index, length-drop, is_line_end, split_lines}
use Rattle.rdf_stream.proofs.LineCuts.{split_after, split_all}
use Rattle.rdf_stream.proofs.WithoutCrsLemmas.{slice_rest}
use Rattle.rdf_stream.proofs.sieve.group_len.Goals as goal

pub returns-then-bytes-le-GROUP_LEN-clause-lines : goal.returns-then-bytes-le-GROUP_LEN-clause-lines
returns-then-bytes-le-GROUP_LEN-clause-lines c = split_all c.args.bytes.now

pub returns-in-None-clause-lines : goal.returns-in-None-clause-lines
returns-in-None-clause-lines c = split_all c.args.bytes.now

pub returns-in-Some-clause-lines : goal.returns-in-Some-clause-lines
returns-in-Some-clause-lines c =
    let w = c.args.bytes.now in
    let at = c.in-Some.at in
    let e = slice_rest w 2048 in
    let next : 2048 + suc at ≡ 2048 + at + 1 = omega arith in
    split_after w 2048 at (subst (λ v. at < length v) e c.in-Some.ensures.0.high) (subst (λ v. is_line_end (slice_index v at) ≡ true) e c.in-Some.ensures.1)
    ∙ ap (λ n. split_lines (take n w) ++ split_lines (drop n w)) next

pub returns-in-Some-clause-within : goal.returns-in-Some-clause-within
returns-in-Some-clause-within c =
    let w = c.args.bytes.now in
    let at = c.in-Some.at in
    let h : at < length (drop 2048 w) = subst (λ v. at < length v) (slice_rest w 2048) c.in-Some.ensures.0.high in
    omega (arith, h, length-drop 2048 w)
