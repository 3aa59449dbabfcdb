-- A map with text as keys, as a list of prefixes and IRIs.
use Rattle.rdf_iri.proofs.Prelude.{◌≡◌, ◌≢◌, ◌≤◌, ◌<◌, ◌+◌, ◌*◌, ℕ, suc, Bool, true, false, cond, List, [], ◌∷◌, ◌++◌, length, Option, Some, None, refl, sym, ap, ◌∙◌, subst, ⊎_elim, arith, String, is_some, MatchBool, nat_lt, Result, Ok, Err, OnOk, IfErr, string_bytes, string_cmp, bytes_eq, chars, IsUtf8, encode_utf8_all, BTreeMap, is_at, get_by_text, Updates, unwrap_or, bytes_eq-Decides, encodes-chars, chars-encodes, scalars-chars, IsUtf8-string_bytes, encodes-append, chars-append, append-nil, length-append, cases_Bool, cond-true, cond-false, false≢true, ltb-true, ltb-false, scalars, IsIri, IsIriText, equal, byte_len, InForce, bound_to, Binds, HasRoom, KeepsLimits, BaseFits, Expands, ExpandsHere, NotExpanded, entries_of, NotJoined, Sets, Sizes}
use Rattle.rdf_iri.specs.declared.fault.IriFault.{IriFault}
use Rattle.rdf_iri.specs.declared.fault.IriFault.TheVariants.{NoBase, IriTooLong, Memory, Unbound, TooManyBindings}
use Rattle.std.specs.Map.{lookup}
use Rattle.std.specs.Ordering.{nat_cmp}
use Rattle.std.specs.Cmp.Lexicographic.{slice_cmp}
use Rattle.std.proofs.lemmas.Map.Text.{is_eq-slice_cmp, btree_map_updates_text}
use Rattle.rdf_iri.proofs.TextsLemmas.{equal-true, equal-from, has_scheme-append}
use Rattle.rdf_iri.proofs.IriKept.{all_have-append}
use Rattle.rdf_iri.proofs.Encoded.{same_test}
use Rattle.rdf_iri.proofs.ResolvedText.{byte_len-chars}

-- texts with the same characters have the same bytes
pub same_text : (v w : List ℕ) → IsUtf8 v → IsUtf8 w → equal (chars v) (chars w) ≡ bytes_eq v w
same_text v w u t = same_test _ _
    (λ h. (bytes_eq-Decides v w).1 (sym (encodes-chars v u) ∙ (ap encode_utf8_all (equal-true (chars v) (chars w) h) ∙ encodes-chars w t)))
    (λ h. equal-from (chars v) (chars w) (ap chars ((bytes_eq-Decides v w).0 h)))

-- a key of the map is this text
abbrev pub text_test : {Z : Type 0} → List ℕ → String Z → Bool
text_test q = is_at (λ k. slice_cmp nat_cmp q (string_bytes k))

-- to look a prefix up by its characters is to look for the key by its bytes
bound_to-lookup : {Z : Type 0} (es : List (String Z × List ℕ)) (q : List ℕ) → IsUtf8 q → bound_to (entries_of es) (chars q) ≡ lookup (text_test {Z = Z} q) es
bound_to-lookup [] q u = refl
bound_to-lookup {Z} (e ∷ es) q u =
    ap (λ b. cond b (Some e.1) (bound_to (entries_of es) (chars q)))
    (same_text q (string_bytes e.0) u (IsUtf8-string_bytes e.0) ∙ sym (is_eq-slice_cmp q (string_bytes e.0)))
    ∙ ap (λ x. cond (text_test {Z = Z} q e.0) (Some e.1) x) (bound_to-lookup es q u)

-- the map answers for a prefix what the scope says
pub bound_to-text : {Z : Type 0} (m : BTreeMap (String Z) (List ℕ)) (q : List ℕ) → IsUtf8 q → bound_to (entries_of m.entries) (chars q) ≡ get_by_text m q
bound_to-text m q u = bound_to-lookup m.entries q u

-- a map has as many prefixes as keys
pub length-entries_of : {Z : Type 0} (es : List (String Z × List ℕ)) → length (entries_of es) ≡ length es
length-entries_of [] = refl
length-entries_of (e ∷ es) = ap suc (length-entries_of es)

-- what is no text is no prefix
differs : (v w : List ℕ) → scalars v ≡ false → IsUtf8 w → equal v (chars w) ≡ false
differs v w n u =
    ⊎_elim
    (λ t. let e : v ≡ chars w = equal-true v (chars w) t in absurd (false≢true (sym n ∙ (ap scalars e ∙ scalars-chars w u))))
    (λ f. f)
    (cases_Bool (equal v (chars w)))

-- what is no text is not bound
no_text : {Z : Type 0} (es : List (String Z × List ℕ)) (q : List ℕ) → scalars q ≡ false → bound_to (entries_of es) q ≡ None
no_text [] q n = refl
no_text (e ∷ es) q n = cond-false (equal q (chars (string_bytes e.0))) _ _ (differs q (string_bytes e.0) n (IsUtf8-string_bytes e.0)) ∙ no_text es q n

-- texts compare alike either way round
pub swapped : (v w : List ℕ) → equal v w ≡ equal w v
swapped v w = same_test _ _ (λ h. equal-from w v (sym (equal-true v w h))) (λ h. equal-from v w (sym (equal-true w v h)))

-- after an update a prefix has its new IRI, and every other what it had
at_text : {Z : Type 0} (m n : BTreeMap (String Z) (List ℕ)) (key : String Z) (prefix iri : List ℕ) → string_bytes key ≡ prefix → IsUtf8 prefix →
    Updates string_cmp m n key (Some iri) → (q : List ℕ) → IsUtf8 q →
    bound_to (entries_of n.entries) (chars q) ≡ cond (equal (chars prefix) (chars q)) (Some iri) (bound_to (entries_of m.entries) (chars q))
at_text m n key prefix iri e t u q v =
    bound_to-text n q v ∙ (btree_map_updates_text (string_bytes key) m n (Some iri) u q
    ∙ (ap (λ x. cond (bytes_eq x q) (Some iri) (get_by_text m q)) e
    ∙ (ap (λ b. cond b (Some iri) (get_by_text m q)) (sym (same_text prefix q t v))
    ∙ ap (λ x. cond (equal (chars prefix) (chars q)) (Some iri) x) (sym (bound_to-text m q v)))))

-- after an update the prefix has its new IRI, and every other, text or not, what it had
pub bound_to-updated : {Z : Type 0} (m n : BTreeMap (String Z) (List ℕ)) (key : String Z) (prefix iri : List ℕ) → string_bytes key ≡ prefix → IsUtf8 prefix →
    Updates string_cmp m n key (Some iri) → (q : List ℕ) →
    bound_to (entries_of n.entries) q ≡ cond (equal (chars prefix) q) (Some iri) (bound_to (entries_of m.entries) q)
bound_to-updated m n key prefix iri e t u q =
    ⊎_elim
    (λ (h : scalars q ≡ true).
    let c : chars (encode_utf8_all q) ≡ q = chars-encodes q h in
    subst (λ x. bound_to (entries_of n.entries) x ≡ cond (equal (chars prefix) x) (Some iri) (bound_to (entries_of m.entries) x)) c
    (at_text m n key prefix iri e t u (encode_utf8_all q) (q, (h, refl))))
    (λ (h : scalars q ≡ false).
    no_text n.entries q h
    ∙ sym (cond-false (equal (chars prefix) q) (Some iri) (bound_to (entries_of m.entries) q)
    (swapped (chars prefix) q ∙ differs q prefix h t) ∙ no_text m.entries q h))
    (cases_Bool (scalars q))

-- an insertion into the map sets the prefix
pub Sets-inserted : {Z : Type 0} (m n : BTreeMap (String Z) (List ℕ)) (key : String Z) (prefix iri : List ℕ) (old : Option (List ℕ)) →
    string_bytes key ≡ prefix → IsUtf8 prefix → Updates string_cmp m n key (Some iri) → old ≡ get_by_text m (string_bytes key) →
    length n.entries ≡ length m.entries + cond (is_some old) 0 1 →
    Sets (entries_of m.entries) (chars prefix) iri (entries_of n.entries)
Sets-inserted m n key prefix iri old k t u o l =
    let was : old ≡ bound_to (entries_of m.entries) (chars prefix) = o ∙ (ap (get_by_text m) k ∙ sym (bound_to-text m prefix t)) in
    record {
      bound = bound_to-updated m n key prefix iri k t u;
      count = length-entries_of n.entries ∙ (l
          ∙ (ap (λ (b : Bool). length m.entries + cond b 0 1) (ap is_some was)
          ∙ ap (λ (i : ℕ). i + cond (is_some (bound_to (entries_of m.entries) (chars prefix))) 0 1) (sym (length-entries_of m.entries))));
    }

-- so a scope binds it, as the contract of `bind` says
pub Binds-set : (s t : InForce) (prefix iri : List ℕ) (new : List (List ℕ × List ℕ)) → Sets s.bindings prefix iri new →
    t ≡ record { base = s.base; bindings = new; limits = s.limits } → Binds s prefix iri t
Binds-set s t prefix iri new k e =
    subst (Binds s prefix iri) (sym e) (record { base = refl; limits = refl; bound = k.bound; count = k.count })

-- what is there is not none
pub some_not : (o : Option (List ℕ)) → is_some o ≡ true → o ≡ None → ⊥
some_not o h e = false≢true (ap is_some (sym e) ∙ h)

-- an IRI with more characters after it is an IRI
pub IsIri-append : (front local : List ℕ) → IsIri front → IsIriText local → IsIri (front ++ local)
IsIri-append front local i t = record { characters = all_have-append _ front local i.characters t; scheme = has_scheme-append front local i.scheme }

-- two texts have the bytes of both
pub byte_len-append : (v w : List ℕ) → byte_len (v ++ w) ≡ byte_len v + byte_len w
byte_len-append v w = ap length (encodes-append v w) ∙ length-append (encode_utf8_all v) (encode_utf8_all w)

-- the size of an expanded name is known before it is put together
pub byte_len-joined : (f l front : List ℕ) → IsUtf8 f → IsUtf8 l → chars f ≡ front → byte_len (front ++ chars l) ≡ length f + length l
byte_len-joined f l front u v e =
    ap (λ x. byte_len (x ++ chars l)) (sym e)
    ∙ (byte_len-append (chars f) (chars l) ∙ (ap (λ n. n + byte_len (chars l)) (byte_len-chars f u) ∙ ap (λ n. length f + n) (byte_len-chars l v)))

-- the limits are kept
count_kept : (o : Option (List ℕ)) (old new most : ℕ) → new ≡ old + cond (is_some o) 0 1 → (o ≡ None → old < most) → old ≤ most → new ≤ most
count_kept None old new most e r l = let h = r refl in omega (arith, e, h)
count_kept (Some w) old new most e r l = omega (arith, e, l)

-- a scope keeps its limits when a prefix is bound
pub KeepsLimits-bound : (s t : InForce) (prefix iri : List ℕ) → KeepsLimits s → Binds s prefix iri t → HasRoom s prefix →
    byte_len prefix ≤ 4 * s.limits.token → byte_len iri ≤ s.limits.iri → KeepsLimits t
KeepsLimits-bound s t prefix iri k b r p l =
    let same = b.limits in
    record {
      base = subst (λ (x : Sizes). BaseFits t.base x) (sym same) (subst (λ (o : Option (List ℕ)). BaseFits o s.limits) (sym b.base) k.base);
      count = subst (λ (x : Sizes). length t.bindings ≤ x.bindings) (sym same) (count_kept (bound_to s.bindings prefix) _ _ _ b.count r k.count);
      bindings = λ q v h. subst (λ (x : Sizes). (byte_len q ≤ 4 * x.token) × (byte_len v ≤ x.iri)) (sym same)
          (⊎_elim
          (λ (t : equal prefix q ≡ true).
          let e : prefix ≡ q = equal-true prefix q t in
          let f : iri ≡ v = Some-injective (sym (cond-true (equal prefix q) (Some iri) (bound_to s.bindings q) t) ∙ (sym (b.bound q) ∙ h)) in
          (subst (λ (x : List ℕ). byte_len x ≤ 4 * s.limits.token) e p, subst (λ (x : List ℕ). byte_len x ≤ s.limits.iri) f l))
          (λ (t : equal prefix q ≡ false). k.bindings q v (sym (cond-false (equal prefix q) (Some iri) (bound_to s.bindings q) t) ∙ (sym (b.bound q) ∙ h)))
          (cases_Bool (equal prefix q)));
    }
  where
    Some-injective : {v w : List ℕ} → Some v ≡ Some w → v ≡ w
    Some-injective {v} e = ap (λ o. unwrap_or o v) e

-- joined texts
pub chars-joined : (t f l front : List ℕ) → t ≡ f ++ l → IsUtf8 f → chars f ≡ front → chars t ≡ front ++ chars l
chars-joined t f l front whole u e = ap chars whole ∙ (chars-append f l u ∙ ap (λ x. x ++ chars l) e)

-- an IRI that was put together is that of the name
pub expands_joined : {T : Type 0} (s : InForce) (prefix local front iri : List ℕ) (r : Result T IriFault) → bound_to s.bindings prefix ≡ Some front →
    OnOk r (iri ≡ front ++ local) → OnOk r (byte_len iri ≤ s.limits.iri) → OnOk r (ExpandsHere s prefix local iri)
expands_joined s prefix local front iri (Ok t) e h l = ((front, e, h), l)
expands_joined s prefix local front iri (Err fault) e h l = tt

-- why the texts were not joined is why the name was not expanded
not_expanded : (s : InForce) (prefix local front : List ℕ) → bound_to s.bindings prefix ≡ Some front → (fault : IriFault) →
    NotJoined front local s.limits.iri fault → NotExpanded s prefix local fault
not_expanded s prefix local front e NoBase h = absurd h
not_expanded s prefix local front e IriTooLong h = (front ++ local, (front, e, refl), h)
not_expanded s prefix local front e Memory h = (front ++ local, ((front, e, refl), h))
not_expanded s prefix local front e Unbound h = absurd h
not_expanded s prefix local front e TooManyBindings h = absurd h

-- an error that the join returned is one that the expansion may return
pub expands_not : {T : Type 0} (s : InForce) (prefix local front : List ℕ) (r : Result T IriFault) → bound_to s.bindings prefix ≡ Some front →
    IfErr r (NotJoined front local s.limits.iri) → IfErr r (NotExpanded s prefix local)
expands_not s prefix local front (Ok t) e h = tt
expands_not s prefix local front (Err fault) e h = not_expanded s prefix local front e fault h

-- the IRI of a name without a local part, with one after it, is that of a name
pub expands_more : (s : InForce) (prefix none more iri longer : List ℕ) → none ≡ [] → Expands s prefix none iri → longer ≡ iri ++ more →
    Expands s prefix more longer
expands_more s prefix none more iri longer n (front, b, e) g =
    (front, b, g ∙ ap (λ x. x ++ more) (e ∙ (ap (λ x. front ++ x) n ∙ append-nil front)))

-- where it was not made that of a name is not either, for the same reason, unless memory was short
pub expands_none : (s : InForce) (prefix none more : List ℕ) (fault : IriFault) → none ≡ [] → NotExpanded s prefix none fault →
    fault ≢ Memory → NotExpanded s prefix more fault
expands_none s prefix none more Unbound n h m = h
expands_none s prefix none more IriTooLong n (iri, e, l) m =
    let longer = iri ++ more in (longer, expands_more s prefix none more iri longer n e refl, omega (arith, l, byte_len-append iri more))
expands_none s prefix none more Memory n h m = absurd (m refl)
expands_none s prefix none more NoBase n h m = absurd h
expands_none s prefix none more TooManyBindings n h m = absurd h

-- a test of two numbers
pub decided : (a b : ℕ) (P Q : Type 0) → (a < b → P) → (b ≤ a → Q) → MatchBool (nat_lt a b) P Q
decided a b P Q f g =
    ⊎_elim
    (λ t. rw t (f (ltb-true a b t)))
    (λ t. rw t (g (ltb-false a b t)))
    (cases_Bool (nat_lt a b))
