-- The bytes that go are those behind which the column stands.
use Rattle.rdf_stream.proofs.Prelude.{◌≡◌, ◌∙◌, ◌≤◌, ◌-◌, ◌++◌, ℕ, List, length, take, drop, sym, ap, subst, arith, rules, append_assoc, length-append, length-take, take-append-drop, copy_within, column_after}
use Rattle.rdf_stream.specs.Kept.{Watches}
use Rattle.rdf_stream.proofs.WatchLemmas.{column_append, column_few, moved_front}
use Rattle.rdf_stream.proofs.watch.Watch.forget.Goals as goal

pub invariant_of-self : goal.invariant_of-self
invariant_of-self g c =
    let all = c.self.inside.kept.items in
    let front = take c.args.count all in
    let few = column_few c.self.inside.column front in
    let column : c.column_after-self-inside.result ≡ column_after c.self.inside.column front = search rules in
    let size : length front ≤ c.args.count = omega (arith, length-take c.args.count all) in
    let left : length c.truncate.new.self.items ≡ length all - c.args.count = search rules in
    let within : c.args.count ≤ length all = search rules in
    (omega (arith, few, column, size, c.self.invariant.0), omega (arith, left, c.self.invariant.1, within))

-- what is left is what stands behind them
behind : (all v : List ℕ) (n m count : ℕ) → v ≡ take (n - count) (copy_within all count m 0) → n ≡ length all → m ≡ length all →
    count ≤ length all → v ≡ drop count all
behind all v n m count e a b within =
    e ∙ (ap (λ k. take (k - count) (copy_within all count m 0)) a
    ∙ (ap (λ k. take (length all - count) (copy_within all count k 0)) b ∙ moved_front all count within))

pub returns-clause-same : goal.returns-clause-same
returns-clause-same g c = λ bytes v.
    let w = subst (λ k. Watches k bytes) (sym c.self.view_is) v in
    let all = c.self.inside.kept.items in
    let front = take c.args.count all in
    let within : c.args.count ≤ length all = search rules in
    let rest : c.truncate.new.self.items ≡ drop c.args.count all =
    behind all c.truncate.new.self.items c.len.result c.self.inside.kept.len c.args.count (c.truncate.ensures.items
    ∙ ap (take (c.len.result - c.args.count)) c.copy_within.ensures.items) (search rules) (search rules) within in
    let column : c.column_after-self-inside.result ≡ column_after c.self.inside.column front = search rules in
    let size : length front ≡ c.args.count = search rules in
    let parts : front ++ c.truncate.new.self.items ≡ all = ap (λ v. front ++ v) rest ∙ take-append-drop c.args.count all in
    record {
      gone = w.gone ++ front;
      whole = w.whole ∙ (ap (λ v. w.gone ++ v) (sym parts) ∙ sym (append_assoc w.gone front c.truncate.new.self.items));
      offset = omega (arith, w.offset, size, length-append w.gone front);
      column = column ∙ (ap (λ n. column_after n front) w.column ∙ sym (column_append 1 w.gone front));
    }
