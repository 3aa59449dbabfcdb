-- What is counted, and what is left to count, are all bytes.
use Rattle.rdf_iri.proofs.Prelude.{◌≡◌, ◌+◌, ◌≤◌, ◌*◌, ◌∙◌, List, ℕ, Some, length, ap, sym, subst, arith, sum_by, sum_by-append, byte_len, bound_to, binding_bytes, entries_of, entry_bytes}
use Rattle.rdf_iri.proofs.HeldLemmas.{sum-cons, sum-entries_of, sum_within, most_fits}
use Rattle.rdf_iri.proofs.PrefixLemmas.{bound_to-apart, all_within, row_bound}
use Rattle.rdf_iri.proofs.prefixes.Prefixes.held.Goals as goal

pub row_len-held-requires : goal.row_len-held-requires
row_len-held-requires g c =
    let row = c.self.inside.row.items in
    let others = entries_of c.self.inside.others.entries in
    let l = c.args.limits in
    let was = sym c.self.view_is in
    let sizes = subst (λ (x : List (List ℕ × List ℕ)). (q iri : List ℕ) → bound_to x q ≡ Some iri →
    (byte_len q ≤ 4 * l.token) × (byte_len iri ≤ l.iri)) was c.requires.sizes in
    let count = subst (λ (x : List (List ℕ × List ℕ)). length x ≤ l.bindings) was c.requires.count in
    let bound = row_bound (entries_of row) others l c.self.invariant.apart sizes count in
    let most = most_fits l c.are_in_range.ensures in
    let same = ap (sum_by entry_bytes) c.deref.ensures.value in
    let texts = sum-entries_of row in
    omega (arith, bound, most, same, texts)

pub loop-prefix-init : goal.loop-prefix-init
loop-prefix-init g c =
    let row = c.self.inside.row.items in
    let others = c.self.inside.others in
    let l = c.args.limits in
    let was = sym c.self.view_is in
    let sizes = subst (λ (x : List (List ℕ × List ℕ)). (q iri : List ℕ) → bound_to x q ≡ Some iri →
    (byte_len q ≤ 4 * l.token) × (byte_len iri ≤ l.iri)) was c.requires.sizes in
    let count = subst (λ (x : List (List ℕ × List ℕ)). length x ≤ l.bindings) was c.requires.count in
    let rest = sum_within others (4 * l.token + l.iri)
    (λ q iri h. let k = sizes q iri (bound_to-apart (entries_of row) (entries_of others.entries) c.self.invariant.apart q iri h) in
    let a = k.0 in let b = k.1 in omega (arith, a, b))
    c.iter-prefix-items.ensures.found in
    let bound = all_within (entries_of row) (entries_of others.entries) l c.self.invariant.apart sizes rest count in
    let first = c.row_len-held.ensures ∙ (ap (sum_by entry_bytes) c.deref.ensures.value ∙ sym (sum-entries_of row)) in
    let rest = ap (sum_by entry_bytes) (c.into_iter-prefix-iterator.ensures.into_iter_gives ∙ c.iter-prefix-items.ensures.rest)
    ∙ sym (sum-entries_of others.entries) in
    let both = sum_by-append binding_bytes (entries_of row) (entries_of others.entries) in
    let kept =
    subst
    (λ (x : List (List ℕ × List ℕ)). (c.row_len-held.result + sum_by entry_bytes c.into_iter-prefix-iterator.result
    ≡ sum_by binding_bytes x) × (sum_by binding_bytes x ≤ l.bindings * (4 * l.token + l.iri)))
    c.self.view_is
    (omega (arith, first, rest, both), bound)
    in
    (tt, tt, kept.0, kept.1)

pub binding_len-held-requires : goal.binding_len-held-requires
binding_len-held-requires g c =
    let i = c.loop-prefix.invariant in
    let r = ap (sum_by entry_bytes) c.in-Some.ensures.steps ∙ sum-cons c.in-Some.prefix.now c.in-Some.iri.now c.next.new.self in
    let most = most_fits c.args.limits c.are_in_range.ensures in
    omega (arith, i.2, i.3, r, most)

pub overflow_add-held : goal.overflow_add-held
overflow_add-held g c =
    let i = c.loop-prefix.invariant in
    let r = ap (sum_by entry_bytes) c.in-Some.ensures.steps ∙ sum-cons c.in-Some.prefix.now c.in-Some.iri.now c.next.new.self in
    let most = most_fits c.args.limits c.are_in_range.ensures in
    omega (arith, i.2, i.3, r, most, c.binding_len-held.ensures)

pub loop-prefix-preserved : goal.loop-prefix-preserved
loop-prefix-preserved g c =
    let i = c.loop-prefix.invariant in
    let r = ap (sum_by entry_bytes) c.in-Some.ensures.steps ∙ sum-cons c.in-Some.prefix.now c.in-Some.iri.now c.next.new.self in
    (tt, tt, omega (arith, i.2, r, c.binding_len-held.ensures), i.3)

pub returns : goal.returns
returns g c =
    let i = c.loop-prefix.invariant in
    let r = ap (sum_by entry_bytes) c.in-None.ensures.steps.0 in
    record {
      sum = omega (arith, i.2, r);
      most = omega (arith, i.2, i.3);
    }
