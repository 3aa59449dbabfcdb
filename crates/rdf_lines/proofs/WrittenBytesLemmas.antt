-- Parts that are appended in turn, and what stands in front of them.
use Rattle.rdf_lines.proofs.Prelude.{◌≡◌, ℕ, ◌+◌, List, [], ◌∷◌, ◌++◌, append_assoc, Result, Ok, Err, OnOk, OnErr, IfOk, is_ok, if◌then◌else◌, take, length, sym, ap, ◌∙◌, arith, length-append, append-nil, take-take, take_all, take-append_seam, BeginsWith}

-- bytes that grew still begin with what they began with
pub begins_with_front : (a b w c : List ℕ) → b ≡ a ++ w → BeginsWith b c → BeginsWith a c
begins_with_front a b w c e h =
    let l : length b ≡ length a + length w = ap length e ∙ length-append a w in
    sym (take-take (length a) (length b) c (omega arith))
    ∙ (ap (take (length a)) (h ∙ e) ∙ take-append_seam a w)

-- what is as it was begins with what it was
pub begins_with_same : (a b : List ℕ) → b ≡ a → BeginsWith a b
begins_with_same a b e = ap (take (length a)) e ∙ take_all (length a) a (omega arith)

-- what is not appended to is as it was
pub begins_where_err : {T E : Type 0} (r : Result T E) (new a b : List ℕ) → new ≡ (if is_ok r then a else b) → OnErr r (BeginsWith b new)
begins_where_err (Ok x) new a b h = tt
begins_where_err (Err x) new a b h = begins_with_same b new h

-- what holds holds where the answer is Err
pub on_err : {T E : Type 0} {P : Type 0} (r : Result T E) → P → OnErr r P
on_err (Ok x) h = tt
on_err (Err x) h = h

-- what follows of an answer
pub on_ok : {T E : Type 0} {P Q : Type 0} (r : Result T E) → (P → Q) → OnOk r P → OnOk r Q
on_ok (Ok x) f h = f h
on_ok (Err e) f h = tt

-- what holds where the answer is Ok
pub where_ok : {T E : Type 0} (r : Result T E) (new a b : List ℕ) → new ≡ (if is_ok r then a else b) → OnOk r (new ≡ a)
where_ok (Ok x) new a b h = h
where_ok (Err e) new a b h = tt

-- a text without characters appends nothing
pub none_appended : (out w : List ℕ) → length w ≡ 0 → out ≡ out ++ w
none_appended out [] e = sym (append-nil out)
none_appended out (c ∷ w) e = absurd (omega arith)

-- three parts that were appended in turn
pub parts_appended : (out a b c first second third : List ℕ) → first ≡ out ++ a → second ≡ first ++ b → third ≡ second ++ c → third ≡ out ++ (a ++ b ++ c)
parts_appended out a b c first second third e f g =
    g ∙ (ap (λ x. x ++ c) (f ∙ (ap (λ x. x ++ b) e ∙ append_assoc out a b)) ∙ append_assoc out (a ++ b) c)

-- what follows from the result follows where there is one
pub if_ok : {T E : Type 0} {P Q : T → Type 0} (r : Result T E) → ((x : T) → P x → Q x) → IfOk r P → IfOk r Q
if_ok (Ok x) f h = f x h
if_ok (Err e) f h = tt
