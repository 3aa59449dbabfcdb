-- What a run over some tokens gives out is due: in each document that begins with them, the quads whose mark is below their number.
use Rattle.rdf_lines.proofs.Prelude.{◌≡◌, ℕ, zero, suc, ◌+◌, ◌-◌, ◌<◌, ◌≤◌, List, [], ◌∷◌, ◌++◌, refl, sym, ap, ◌∙◌, ⊎_elim, append_assoc, length, take, arith, length-append, zero-add, Option, Some, None, cond-true, cond-false, cases_lt, lt-ltb, le-ltb, take-append-le, take-append-add, take-nil, take-append_seam, nat_lt, IriRef, Dot, LineEnd, End, Token, Marked, items_below, Due, Rises, Quad, has_scheme, LineForm, Name, Ref, Lab, Object, Named, WithType, WithTag, Statement, Document, last, next, name_tokens, object_tokens, graph_tokens, head_tokens, statement_tokens, line_tokens, document_tokens, document_quads, documents, MarksNeverFall, Mode, Begin, ran, run}
use Rattle.rdf_tokens.proofs.GrammarsLemmas.{rises_from}
use Rattle.rdf_tokens.specs.Leaves.{token}
use Rattle.rdf_lines.specs.Lines.{Plain, quad_of}
use Rattle.rdf_lines.proofs.LinesLemmas.{document_good}
use Rattle.rdf_lines.proofs.PlainQuads.{plain_quads}
use Rattle.rdf_lines.specs.Lines as L
use Rattle.rdf_lines.proofs.Lag.{is_dot, dots, given_dots}
use Rattle.rdf_lines.proofs.Runs.{given_begin}
use Rattle.rdf_lines.proofs.Viable.{viable_ran, ran_viable}

-- two lists of tokens have the dots of both
dots-append : (ts us : List Token) → dots (ts ++ us) ≡ dots ts + dots us
dots-append [] us = sym (zero-add (dots us))
dots-append (t ∷ ts) us = let h = dots-append ts us in omega arith

-- a front of tokens without dots has none
dots-take : (ts : List Token) (k : ℕ) → dots ts ≡ 0 → dots (take k ts) ≡ 0
dots-take [] k e = ap dots (take-nil k)
dots-take (t ∷ ts) zero e = refl
dots-take (t ∷ ts) (suc k) e =
    let a : is_dot t.kind + dots ts ≡ 0 = e in
    let h = dots-take ts k (omega arith) in omega arith

-- the head of a statement has no dot
dots-name : (n : Name) → dots (name_tokens n) ≡ 0
dots-name (Ref l) = refl
dots-name (Lab l) = refl

-- an object has no dot
dots-object : (o : Object) → dots (object_tokens o) ≡ 0
dots-object (Named n) = dots-name n
dots-object (Plain w) = refl
dots-object (WithType w c i) = refl
dots-object (WithTag w t) = refl

-- a graph label has no dot
dots-graph : (g : Option Name) → dots (graph_tokens g) ≡ 0
dots-graph None = refl
dots-graph (Some n) = dots-name n

-- so the head of a statement has none, and its quad is due at the dot alone
dots-head : (s : Statement) → dots (head_tokens s) ≡ 0
dots-head s =
    let n = name_tokens s.subject in
    let p = token IriRef s.predicate ∷ [] in
    let o = object_tokens s.object in
    let z : dots p ≡ 0 = refl in
    omega (
      arith,
      dots-append (n ++ p ++ o) (graph_tokens s.graph),
      dots-append (n ++ p) o,
      dots-append n p,
      dots-name s.subject,
      dots-object s.object,
      dots-graph s.graph,
    )

-- no mark of a tree is below the number of tokens before it
before-none : (d : Document) (n k : ℕ) → k ≤ n → items_below k (document_quads n d) ≡ []
before-none (last L.empty e) n k l = refl
before-none (last (L.one s) e) n k l = cond-false (nat_lt (n + length (head_tokens s)) k) _ _ (le-ltb _ _ (omega arith))
before-none (next L.empty e d) n k l = before-none d (n + length (line_tokens L.empty) + 1) k (omega arith)
before-none (next (L.one s) e d) n k l =
    cond-false (nat_lt (n + length (head_tokens s)) k) _ _ (le-ltb _ _ (omega arith))
    ∙ before-none d (n + length (statement_tokens s) + 1) k (omega arith)

-- The quad of a statement is due with the token after its head, its dot, and the others by what follows.
one_line : (s : Statement) (n k : ℕ) (ms : List Marked) (rest : List Token) (qs : List Quad) →
    (k ≤ length (head_tokens s) → items_below (n + k) ms ≡ []) →
    ((j : ℕ) → k ≡ length (head_tokens s) + 1 + j → items_below (n + k) ms ≡ take (dots (take j rest)) qs) →
    items_below (n + k) (record { item = quad_of s; mark = n + length (head_tokens s) } ∷ ms) ≡ take
    (dots (take k (statement_tokens s ++ rest))) (quad_of s ∷ qs)
one_line s n k ms rest qs few more = ⊎_elim whole part (cases_lt (length (head_tokens s)) k)
  where
    part : k ≤ length (head_tokens s) → items_below (n + k) (record { item = quad_of s; mark = n + length (head_tokens s) } ∷ ms) ≡ take
        (dots (take k (statement_tokens s ++ rest))) (quad_of s ∷ qs)
    part l =
        let h = head_tokens s in
        let t : take k (statement_tokens s ++ rest) ≡ take k h =
        ap (take k) (append_assoc h (token Dot s.dot ∷ []) rest) ∙ take-append-le k h ((token Dot s.dot ∷ []) ++ rest) l in
        let z : dots (take k (statement_tokens s ++ rest)) ≡ 0 = ap dots t ∙ dots-take h k (dots-head s) in
        cond-false (nat_lt (n + length h) (n + k)) _ _ (le-ltb _ _ (omega arith)) ∙ (few l ∙ sym (ap (λ x. take x (quad_of s ∷ qs)) z))

    whole : length (head_tokens s) < k → items_below (n + k) (record { item = quad_of s; mark = n + length (head_tokens s) } ∷ ms) ≡ take
        (dots (take k (statement_tokens s ++ rest))) (quad_of s ∷ qs)
    whole l =
        let h = head_tokens s in
        let j = k - (length h + 1) in
        let size : length (statement_tokens s) ≡ length h + 1 = length-append h (token Dot s.dot ∷ []) in
        let e : k ≡ length (statement_tokens s) + j = omega arith in
        let t : take k (statement_tokens s ++ rest) ≡ statement_tokens s ++ take j rest =
        ap (λ x. take x (statement_tokens s ++ rest)) e ∙ take-append-add (statement_tokens s) rest j in
        let one : dots (statement_tokens s) ≡ 1 = dots-append h (token Dot s.dot ∷ []) ∙ ap (λ x. x + 1) (dots-head s) in
        let z : dots (take k (statement_tokens s ++ rest)) ≡ suc (dots (take j rest)) =
        ap dots t ∙ (dots-append (statement_tokens s) (take j rest) ∙ omega (arith, one)) in
        cond-true (nat_lt (n + length h) (n + k)) _ _ (lt-ltb _ _ (omega arith))
        ∙ (ap (λ x. quad_of s ∷ x) (more j (omega arith)) ∙ sym (ap (λ x. take x (quad_of s ∷ qs)) z))

-- the quads below a number are as many as there are dots among so many tokens
before-dots : (d : Document) (n k : ℕ) → items_below (n + k) (document_quads n d) ≡ take (dots (take k (document_tokens d))) (plain_quads d)
before-dots (last L.empty e) n k = sym (take-nil _)
before-dots (last (L.one s) e) n k = one_line s n k [] (token End e ∷ []) [] (λ l. refl) (λ j x. sym (take-nil _))
before-dots (next L.empty e d) n zero = before-none d (n + length (line_tokens L.empty) + 1) (n + 0) (omega arith)
before-dots (next L.empty e d) n (suc k) =
    let a : n + suc k ≡ n + length (line_tokens L.empty) + 1 + k = omega arith in
    let b : dots (token LineEnd e ∷ take k (document_tokens d)) ≡ dots (take k (document_tokens d)) = zero-add _ in
    ap (λ x. items_below x (document_quads (n + length (line_tokens L.empty) + 1) d)) a
    ∙ (before-dots d (n + length (line_tokens L.empty) + 1) k ∙ sym (ap (λ x. take x (plain_quads d)) b))
before-dots (next (L.one s) e d) n k =
    one_line s n k (document_quads (n + length (statement_tokens s) + 1) d) (token LineEnd e ∷ document_tokens d) (plain_quads d)
    (λ l. before-none d (n + length (statement_tokens s) + 1) (n + k) (omega (arith, size)))
    (more (λ j. before-dots d (n + length (statement_tokens s) + 1) j))
  where
    size : length (statement_tokens s) ≡ length (head_tokens s) + 1
    size = length-append (head_tokens s) (token Dot s.dot ∷ [])

    more : ((j : ℕ) → items_below (n + length (statement_tokens s) + 1 + j) (document_quads (n + length (statement_tokens s) + 1) d) ≡ take
        (dots (take j (document_tokens d))) (plain_quads d)) → (j : ℕ) → k ≡ length (head_tokens s) + 1 + j →
        items_below (n + k) (document_quads (n + length (statement_tokens s) + 1) d) ≡ take
        (dots (take j (token LineEnd e ∷ document_tokens d))) (plain_quads d)
    more h zero x = before-none d (n + length (statement_tokens s) + 1) (n + k) (omega (arith, size))
    more h (suc j) x =
        let m = n + length (statement_tokens s) + 1 in
        let a : n + k ≡ m + j = omega (arith, size) in
        let b : dots (token LineEnd e ∷ take j (document_tokens d)) ≡ dots (take j (document_tokens d)) = zero-add _ in
        ap (λ x. items_below x (document_quads m d)) a ∙ (h j ∙ sym (ap (λ x. take x (plain_quads d)) b))

-- in each document that begins with the tokens
pub due_in : (f : LineForm) (ts more : List Token) (m : Mode) (qs : List Quad) (all : List Marked) → run has_scheme f Begin ts ≡ ran m qs →
    documents f (ts ++ more) all → items_below (length ts) all ≡ qs
due_in f ts more m qs all e d =
    let t : take (length ts) (document_tokens d.0) ≡ ts = ap (take (length ts)) (sym d.1) ∙ take-append_seam ts more in
    let g = given_begin has_scheme f ts more m qs (plain_quads d.0) e (d.0, d.1, document_good has_scheme f (ts ++ more) all d, refl) in
    let z : dots (take (length ts) (document_tokens d.0)) ≡ length qs = ap dots t ∙ sym (given_dots has_scheme f ts Begin m qs e) in
    ap (items_below (length ts)) (sym d.3)
    ∙ (ap (λ x. items_below x (document_quads 0 d.0)) (sym (zero-add (length ts)))
    ∙ (before-dots d.0 0 (length ts)
    ∙ (ap (λ x. take x (plain_quads d.0)) z ∙ (ap (take (length qs)) g.1 ∙ take-append_seam qs g.0))))

-- what was given out is due in some document
pub due_ran : (f : LineForm) (ts : List Token) (m : Mode) (qs : List Quad) → run has_scheme f Begin ts ≡ ran m qs → Due (documents f) ts qs
due_ran f ts m qs e =
    let v = viable_ran has_scheme f refl ts m qs e in
    (v.0, v.1, v.2, due_in f ts v.0 m qs v.1 e v.2)

-- every document that begins with the tokens has the same quads due
pub same_due : (f : LineForm) (ts : List Token) (qs rs : List Quad) → Due (documents f) ts qs → Due (documents f) ts rs → qs ≡ rs
same_due f ts qs rs a b =
    let r = ran_viable has_scheme f ts (a.0, a.1, a.2) in
    sym a.3 ∙ (due_in f ts a.0 r.0 r.1 a.1 r.2 a.2 ∙ (sym (due_in f ts b.0 r.0 r.1 b.1 r.2 b.2) ∙ b.3))

-- no mark of a tree is below the number of tokens before it, nor below the mark before it
rises : (d : Document) (n : ℕ) → Rises n (document_quads n d)
rises (last L.empty e) n = tt
rises (last (L.one s) e) n = (omega arith, tt)
rises (next L.empty e d) n =
    let m = n + length (line_tokens L.empty) + 1 in
    rises_from (document_quads m d) n m (omega arith) (rises d m)
rises (next (L.one s) e d) n =
    let m = n + length (statement_tokens s) + 1 in
    let size : length (statement_tokens s) ≡ length (head_tokens s) + 1 = length-append (head_tokens s) (token Dot s.dot ∷ []) in
    (omega arith, rises_from (document_quads m d) (n + length (head_tokens s)) m (omega (arith, size)) (rises d m))

-- the quads of a tree come in the order in which they are due
pub never_fall : MarksNeverFall
never_fall d = rises d 0
