-- A prefix is set where it stands in the row, at the end of the row, or among the others.
use Rattle.rdf_iri.proofs.Prelude.{◌≡◌, ◌∙◌, List, [], ◌∷◌, ◌++◌, ℕ, None, Ok, Err, refl, ap, sym, subst, arith, set, Result, OnOk, OnErr, chars, false≢true, bound_to, entries_of, KeptApart, StandsAt, Sets, HaveSlots, Kept, IsNext}
use Rattle.std.specs.Result.{IsErr}
use Rattle.rdf_iri.proofs.ScopeLemmas.{Sets-inserted}
use Rattle.rdf_iri.proofs.PrefixLemmas.{place_within, key_there, entries_of-anew, entries_of-append, Sets-after, Sets-anew, Sets-pushed, KeptApart-anew, KeptApart-pushed, KeptApart-others}
use Rattle.rdf_iri.proofs.TableLemmas.{sought, HaveSlots-anew, HaveSlots-kept, HaveSlots-pushed}
use Rattle.rdf_iri.proofs.prefixes.Prefixes.set.Goals as goal

-- an error is no success, and what holds then holds on it
not_ok : {T E : Type 0} (r : Result T E) (P : Type 0) → IsErr r → OnOk r P
not_ok (Ok v) P e = absurd (false≢true e)
not_ok (Err x) P e = tt

on_err : {T E : Type 0} (r : Result T E) (P : Type 0) → P → OnErr r P
on_err (Ok v) P p = tt
on_err (Err x) P p = p

pub place_of-requires : goal.place_of-requires
place_of-requires g c =
    let s = sought c.self.inside.slots.items c.deref.result.now c.self.inside.row.items c.deref-2.result.now c.self.inside.others.entries
    c.deref.ensures.value c.deref-2.ensures.value c.self.invariant in
    record { slots = s.placed; apart = s.apart }

pub index_mut-requires : goal.index_mut-requires
index_mut-requires g c =
    let w = place_within c.deref-2.result.now (chars c.args.prefix.now) c.in-Some.place c.in-Some.ensures in
    omega (arith, w, c.deref-2.ensures.len)

pub invariant_of-self : goal.invariant_of-self
invariant_of-self g c =
    let p = chars c.args.prefix.now in
    let row = c.self.inside.row.items in
    let others = entries_of c.self.inside.others.entries in
    let i = c.in-Some.place in
    let r = c.index_mut.result.now in
    let s = subst (λ r. StandsAt (entries_of r) p i) c.deref-2.ensures.value c.in-Some.ensures in
    record {
      apart = subst (λ (x : List (List ℕ × List ℕ)). KeptApart x others)
          (sym (entries_of-anew row p c.args.iri i (r.0, c.args.iri) s (key_there row p i r s c.index_mut.ensures.value) refl))
          (KeptApart-anew (entries_of row) others p c.args.iri i s c.self.invariant.apart);
      placed = HaveSlots-anew c.self.inside.slots.items row i r c.args.iri c.index_mut.ensures.value c.self.invariant.placed;
    }

pub returns-in-Some-clause-set : goal.returns-in-Some-clause-set
returns-in-Some-clause-set g c =
    let p = chars c.args.prefix.now in
    let row = c.self.inside.row.items in
    let others = entries_of c.self.inside.others.entries in
    let i = c.in-Some.place in
    let r = c.index_mut.result.now in
    let s = subst (λ r. StandsAt (entries_of r) p i) c.deref-2.ensures.value c.in-Some.ensures in
    subst (λ (o : List (List ℕ × List ℕ)). Sets o p c.args.iri (entries_of (set row i (r.0, c.args.iri)) ++ others)) c.self.view_is
    (subst (λ (x : List (List ℕ × List ℕ)). Sets (entries_of row ++ others) p c.args.iri (x ++ others))
    (sym (entries_of-anew row p c.args.iri i (r.0, c.args.iri) s (key_there row p i r s c.index_mut.ensures.value) refl))
    (Sets-anew (entries_of row) others p c.args.iri i s))

pub invariant_of-self-then-next : goal.invariant_of-self-then-next
invariant_of-self-then-next g c =
    let p = chars c.args.prefix.now in
    let slots = c.is_next.new.slots.items in
    let row = c.self.inside.row.items in
    let others = c.self.inside.others.entries in
    let new : bound_to (entries_of row) p ≡ None = subst (λ r. bound_to (entries_of r) p ≡ None) c.deref-2.ensures.value c.in_default.ensures in
    let next = subst (λ r. IsNext slots r others c.args.prefix.now) c.deref-3.ensures.value (c.in_ok-next.ensures.next c.if-next.true) in
    let all : entries_of c.push.new.self.items ≡ entries_of row ++ (p, c.args.iri) ∷ [] =
    ap entries_of c.in_ok-push.ensures.items
    ∙ (entries_of-append row ((c.in_ok-key.key, c.args.iri) ∷ []) ∙ ap (λ (k : List ℕ). entries_of row ++ (chars k, c.args.iri) ∷ []) c.in_ok-key.ensures.ok) in
    record {
      apart = subst (λ (x : List (List ℕ × List ℕ)). KeptApart x (entries_of others)) (sym all)
          (KeptApart-pushed (entries_of row) (entries_of others) p c.args.iri next.new new c.self.invariant.apart);
      placed = subst (λ r. HaveSlots slots r) (sym c.in_ok-push.ensures.items)
          (HaveSlots-pushed slots row c.in_ok-key.key c.args.prefix.now c.args.iri c.in_ok-key.ensures.ok
          (HaveSlots-kept c.self.inside.slots.items slots row c.in_ok-next.ensures.kept c.self.invariant.placed) next.slot);
    }

pub returns-then-next-clause-set : goal.returns-then-next-clause-set
returns-then-next-clause-set g c =
    let p = chars c.args.prefix.now in
    let row = c.self.inside.row.items in
    let others = c.self.inside.others.entries in
    let new : bound_to (entries_of row) p ≡ None = subst (λ r. bound_to (entries_of r) p ≡ None) c.deref-2.ensures.value c.in_default.ensures in
    let next = subst (λ r. IsNext c.is_next.new.slots.items r others c.args.prefix.now) c.deref-3.ensures.value (c.in_ok-next.ensures.next c.if-next.true) in
    let all : entries_of c.push.new.self.items ≡ entries_of row ++ (p, c.args.iri) ∷ [] =
    ap entries_of c.in_ok-push.ensures.items
    ∙ (entries_of-append row ((c.in_ok-key.key, c.args.iri) ∷ []) ∙ ap (λ (k : List ℕ). entries_of row ++ (chars k, c.args.iri) ∷ []) c.in_ok-key.ensures.ok) in
    subst (λ (o : List (List ℕ × List ℕ)). Sets o p c.args.iri (entries_of c.push.new.self.items ++ entries_of others)) c.self.view_is
    (subst (λ (x : List (List ℕ × List ℕ)). Sets (entries_of row ++ entries_of others) p c.args.iri (x ++ entries_of others)) (sym all)
    (Sets-pushed (entries_of row) (entries_of others) p c.args.iri next.new new))

pub invariant_of-self-in_err-push : goal.invariant_of-self-in_err-push
invariant_of-self-in_err-push g c =
    let slots = c.is_next.new.slots.items in
    let same = c.in_err-push.ensures.items in
    let row = c.self.inside.row.items in
    subst (λ r. Kept slots r c.self.inside.others.entries) (sym same)
    (record { apart = c.self.invariant.apart; placed = HaveSlots-kept c.self.inside.slots.items slots row c.is_next.ensures.kept c.self.invariant.placed })

pub invariant_of-self-in_err-insert : goal.invariant_of-self-in_err-insert
invariant_of-self-in_err-insert g c =
    let slots = c.is_next.new.slots.items in
    let row = c.self.inside.row.items in
    let h : c.insert.new.self.entries ≡ c.self.inside.others.entries = c.in_err-insert.ensures.err in
    subst (λ os. Kept slots row os) (sym h)
    (record { apart = c.self.invariant.apart; placed = HaveSlots-kept c.self.inside.slots.items slots row c.is_next.ensures.kept c.self.invariant.placed })

pub invariant_of-self-2 : goal.invariant_of-self-2
invariant_of-self-2 g c =
    let p = c.args.prefix.now in
    let row = c.self.inside.row.items in
    let i = c.in_ok-insert.ensures in
    let new : bound_to (entries_of row) (chars p) ≡ None = subst (λ r. bound_to (entries_of r) (chars p) ≡ None) c.deref-2.ensures.value c.in_default.ensures in
    record {
      apart = KeptApart-others (entries_of row) _ _ (chars p) c.args.iri new
          (Sets-inserted c.self.inside.others c.insert.new.self c.in_ok-key.key p c.args.iri _ c.in_ok-key.ensures.ok c.utf8.prefix
          i.updates i.old i.len) c.self.invariant.apart;
      placed = HaveSlots-kept c.self.inside.slots.items c.is_next.new.slots.items row c.is_next.ensures.kept c.self.invariant.placed;
    }

pub returns-clause-set : goal.returns-clause-set
returns-clause-set g c =
    let p = c.args.prefix.now in
    let row = c.self.inside.row.items in
    let i = c.in_ok-insert.ensures in
    let new : bound_to (entries_of row) (chars p) ≡ None = subst (λ r. bound_to (entries_of r) (chars p) ≡ None) c.deref-2.ensures.value c.in_default.ensures in
    subst (λ (o : List (List ℕ × List ℕ)). Sets o (chars p) c.args.iri (entries_of row ++ entries_of c.insert.new.self.entries)) c.self.view_is
    (Sets-after (entries_of row) _ _ (chars p) c.args.iri new
    (Sets-inserted c.self.inside.others c.insert.new.self c.in_ok-key.key p c.args.iri _ c.in_ok-key.ensures.ok c.utf8.prefix i.updates i.old i.len))

pub returns-in_err-key-clause-set : goal.returns-in_err-key-clause-set
returns-in_err-key-clause-set g c = not_ok c.from_residual.result _ c.from_residual.ensures.0

pub returns-in_err-key-clause-unchanged : goal.returns-in_err-key-clause-unchanged
returns-in_err-key-clause-unchanged g c = on_err c.from_residual.result _ refl

pub invariant_of-self-in_err-next : goal.invariant_of-self-in_err-next
invariant_of-self-in_err-next g c =
    record {
      apart = c.self.invariant.apart;
      placed = HaveSlots-kept c.self.inside.slots.items c.is_next.new.slots.items c.self.inside.row.items c.is_next.ensures.kept c.self.invariant.placed;
    }

pub returns-in_err-next-clause-set : goal.returns-in_err-next-clause-set
returns-in_err-next-clause-set g c = not_ok c.from_residual-in_err-next.result _ c.from_residual-in_err-next.ensures.0

pub returns-in_err-next-clause-unchanged : goal.returns-in_err-next-clause-unchanged
returns-in_err-next-clause-unchanged g c = on_err c.from_residual-in_err-next.result _ c.self.view_is

pub returns-in_err-push-clause-set : goal.returns-in_err-push-clause-set
returns-in_err-push-clause-set g c = not_ok c.from_residual-in_err-push.result _ c.from_residual-in_err-push.ensures.0

pub returns-in_err-push-clause-unchanged : goal.returns-in_err-push-clause-unchanged
returns-in_err-push-clause-unchanged g c =
    on_err c.from_residual-in_err-push.result _
    (ap (λ r. entries_of r ++ entries_of c.self.inside.others.entries) c.in_err-push.ensures.items ∙ c.self.view_is)

pub returns-in_err-insert-clause-set : goal.returns-in_err-insert-clause-set
returns-in_err-insert-clause-set g c = not_ok c.from_residual-in_err-insert.result _ c.from_residual-in_err-insert.ensures.0

pub returns-in_err-insert-clause-unchanged : goal.returns-in_err-insert-clause-unchanged
returns-in_err-insert-clause-unchanged g c =
    on_err c.from_residual-in_err-insert.result _
    (ap (λ es. entries_of c.self.inside.row.items ++ entries_of es) c.in_err-insert.ensures.err ∙ c.self.view_is)
