-- A prefix comes next where few are bound, or where it has a slot and is not in the map.
use Rattle.rdf_iri.proofs.Prelude.{◌≡◌, ◌<◌, ◌∙◌, ◌++◌, ℕ, Bool, true, false, List, [], ◌∷◌, length, take, drop, Option, Some, None, MatchBool, refl, sym, ap, subst, arith, String, is_some, ⊤, chars, take-append_seam, false≢true, bound_to, entries_of, HasSlot, IsNext}
use Rattle.rdf_iri.proofs.table.is_next.Goals as goal

-- where none is in the map, the next is one of the first
next_first : {Z : Type 0} (slots : List ℕ) (row others : List (String Z × List ℕ)) (q : List ℕ) → length others ≡ 0 → length row < 16 →
    IsNext slots row others q
next_first slots row [] q n l = record { new = refl; slot = λ g. absurd (omega (arith, g, l)) }
next_first slots row (o ∷ others) q n l = absurd (omega (arith, n))

none_of : (o : Option (List ℕ)) → false ≡ is_some o → o ≡ None
none_of None e = refl
none_of (Some i) e = absurd (false≢true e)

-- one that is not in the map and has a slot is the next
next_later : {Z : Type 0} (slots : List ℕ) (row others : List (String Z × List ℕ)) (q : List ℕ) (among added : Bool) →
    among ≡ is_some (bound_to (entries_of others) (chars q)) → among ≡ false → MatchBool added (HasSlot slots q (length row)) ⊤ → added ≡ true →
    IsNext slots row others q
next_later slots row others q among true a f h e = record { new = none_of _ (sym f ∙ a); slot = λ g. h }
next_later slots row others q among false a f h e = absurd (false≢true e)

-- what was added is what is there afterwards
written : (n : ℕ) (new old items : List ℕ) → n ≡ length items → old ≡ items → length new ≡ length old → take n (new ++ drop (length new) items) ≡ new
written n new old items e f l =
    ap (λ k. take k (new ++ drop (length new) items)) (e ∙ (ap length (sym f) ∙ sym l)) ∙ take-append_seam new (drop (length new) items)

pub returns-then-place-lt-ROW-clause-next : goal.returns-then-place-lt-ROW-clause-next
returns-then-place-lt-ROW-clause-next g c = λ e.
    next_first c.args.slots.now.items c.args.row.now c.args.others.now.entries c.args.prefix.now (c.is_empty.ensures.0 e) c.if-place-lt-ROW.true

pub returns-then-place-lt-ROW-clause-kept : goal.returns-then-place-lt-ROW-clause-kept
returns-then-place-lt-ROW-clause-kept g c = λ prefix place p h. h

pub returns-then-place-clause-next : goal.returns-then-place-clause-next
returns-then-place-clause-next g c = λ e. absurd (false≢true e)

pub returns-then-place-clause-kept : goal.returns-then-place-clause-kept
returns-then-place-clause-kept g c = λ prefix place p h. h

pub returns-in_err-make_slots-clause-kept : goal.returns-in_err-make_slots-clause-kept
returns-in_err-make_slots-clause-kept g c = c.make_slots.ensures

pub add-requires : goal.add-requires
add-requires g c = let l = c.if-place.false in omega (arith, l)

pub returns-clause-next : goal.returns-clause-next
returns-clause-next g c = λ e.
    let new = c.add.new.slots in
    let row = c.args.row.now in
    subst (λ s. IsNext s row c.args.others.now.entries c.args.prefix.now)
    (sym (written c.make_slots.new.slots.len new _ c.make_slots.new.slots.items c.make_slots.new.slots.ok.0 c.deref_mut.ensures.value c.add.auto.slots))
    (next_later new row c.args.others.now.entries c.args.prefix.now c.is_among.result c.add.result c.is_among.ensures c.if-is_among.false
    c.add.ensures.added e)

pub returns-clause-kept : goal.returns-clause-kept
returns-clause-kept g c = λ prefix place p h.
    let old : HasSlot c.make_slots.new.slots.items prefix place = c.make_slots.ensures prefix place p h in
    subst (λ s. HasSlot s prefix place)
    (sym (written c.make_slots.new.slots.len c.add.new.slots _ c.make_slots.new.slots.items c.make_slots.new.slots.ok.0 c.deref_mut.ensures.value
    c.add.auto.slots))
    (c.add.ensures.kept prefix place p (subst (λ s. HasSlot s prefix place) (sym c.deref_mut.ensures.value) old))
