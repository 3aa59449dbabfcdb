-- The tokens settle the quads of a document and their marks, and so what is due.
use Rattle.rdf_lines.proofs.Prelude.{◌≡◌, ℕ, ◌+◌, List, [], ◌∷◌, ◌++◌, refl, sym, ap, ◌∙◌, length, append_assoc, Option, Some, None, arith, length-append, Kind, IriRef, Dot, LineEnd, End, Quad, has_scheme, Token, Marked, unmarked, LineForm, Name, Ref, Lab, Object, Named, WithType, WithTag, Statement, Document, last, next, name_tokens, object_tokens, graph_tokens, head_tokens, statement_tokens, document_tokens, document_quads, any_iri, trees, TokensSettleTheQuads, TokensSettleWhatIsDue, DueBeginsTheQuads}
use Rattle.rdf_tokens.specs.Leaves.{token}
use Rattle.rdf_lines.specs.Lines.{Plain}
use Rattle.rdf_lines.specs.Lines as L
use Rattle.rdf_lines.proofs.LinesLemmas.{marked_document}
use Rattle.rdf_lines.proofs.Runs.{same_quads, given_begin}
use Rattle.rdf_lines.proofs.Viable.{ran_viable}
use Rattle.rdf_lines.proofs.Due.{due_in, same_due}

-- with the number of a dot before those of the others
abbrev dot_at : ℕ → Kind → List ℕ → List ℕ
dot_at n Dot ns = n ∷ ns
dot_at n k ns = ns

-- for each dot the number of tokens before it, where n stand before these tokens
abbrev dots_at : ℕ → List Token → List ℕ
dots_at n [] = []
dots_at n (t ∷ ts) = dot_at n t.kind (dots_at (n + 1) ts)

-- the marks alone
abbrev marks : List Marked → List ℕ
marks [] = []
marks (q ∷ qs) = q.mark ∷ marks qs

-- these tokens have no dot
abbrev NoDot : List Token → Type 0
NoDot us = (n : ℕ) (ts : List Token) → dots_at n (us ++ ts) ≡ dots_at (n + length us) ts

-- so have the tokens of two parts
no_dot_both : (us vs : List Token) → NoDot us → NoDot vs → NoDot (us ++ vs)
no_dot_both us vs a b n ts =
    let l = length-append us vs in
    ap (dots_at n) (append_assoc us vs ts) ∙ (a n (vs ++ ts) ∙ (b (n + length us) ts ∙ ap (λ k. dots_at k ts) (omega (arith, l))))

-- and the parts of a statement before its dot
no_dot_name : (x : Name) → NoDot (name_tokens x)
no_dot_name (Ref l) n ts = refl
no_dot_name (Lab l) n ts = refl

-- an object has no dot
no_dot_object : (o : Object) → NoDot (object_tokens o)
no_dot_object (Named x) n ts = no_dot_name x n ts
no_dot_object (Plain w) n ts = refl
no_dot_object (WithType w c i) n ts = ap (λ k. dots_at k ts) (omega arith)
no_dot_object (WithTag w t) n ts = ap (λ k. dots_at k ts) (omega arith)

-- a graph label has no dot
no_dot_graph : (g : Option Name) → NoDot (graph_tokens g)
no_dot_graph None n ts = ap (λ k. dots_at k ts) (omega arith)
no_dot_graph (Some x) n ts = no_dot_name x n ts

-- so the only dot of a statement is its last token
no_dot_head : (s : Statement) → NoDot (head_tokens s)
no_dot_head s =
    let n = name_tokens s.subject in
    let p = token IriRef s.predicate ∷ [] in
    let o = object_tokens s.object in
    no_dot_both (n ++ p ++ o) (graph_tokens s.graph)
    (no_dot_both (n ++ p) o (no_dot_both n p (no_dot_name s.subject) (λ n ts. refl)) (no_dot_object s.object)) (no_dot_graph s.graph)

-- A statement's dot stands after its head.
dots_statement : (s : Statement) (n : ℕ) (rest : List Token) → dots_at n (statement_tokens s ++ rest)
    ≡ (n + length (head_tokens s)) ∷ dots_at (n + length (head_tokens s) + 1) rest
dots_statement s n rest = ap (dots_at n) (append_assoc (head_tokens s) (token Dot s.dot ∷ []) rest) ∙ no_dot_head s n (token Dot s.dot ∷ rest)

-- The marks of a tree are where its dots stand.
marks_at : (d : Document) (n : ℕ) → marks (document_quads n d) ≡ dots_at n (document_tokens d)
marks_at (last L.empty e) n = refl
marks_at (last (L.one s) e) n = sym (dots_statement s n (token End e ∷ []))
marks_at (next L.empty e d) n = marks_at d (n + 0 + 1) ∙ ap (λ k. dots_at k (document_tokens d)) (omega arith)
marks_at (next (L.one s) e d) n =
    let l = length-append (head_tokens s) (token Dot s.dot ∷ []) in
    ap (λ ms. (n + length (head_tokens s)) ∷ ms)
    (marks_at d (n + length (statement_tokens s) + 1) ∙ ap (λ k. dots_at k (document_tokens d)) (omega (arith, l)))
    ∙ sym (dots_statement s n (token LineEnd e ∷ document_tokens d))

-- Lists with the same quads and the same marks are the same.
one_same : {a b : Quad} {m n : ℕ} → a ≡ b → m ≡ n → (let x : Marked = record { item = a; mark = m } in x) ≡ record { item = b; mark = n }
one_same p q = cc

-- marked quads are equal where the quads and the marks are
all_same : (qs rs : List Marked) → unmarked qs ≡ unmarked rs → marks qs ≡ marks rs → qs ≡ rs
all_same [] [] a b = refl
all_same [] (r ∷ rs) a b = absurd (let z : [] ≡ r.mark ∷ marks rs = b in cc)
all_same (q ∷ qs) [] a b = absurd (let z : q.mark ∷ marks qs ≡ [] = b in cc)
all_same (q ∷ qs) (r ∷ rs) a b =
    let quads : q.item ∷ unmarked qs ≡ r.item ∷ unmarked rs = a in
    let places : q.mark ∷ marks qs ≡ r.mark ∷ marks rs = b in
    let first : q.item ≡ r.item = cc in
    let more : unmarked qs ≡ unmarked rs = cc in
    let place : q.mark ≡ r.mark = cc in
    let others : marks qs ≡ marks rs = cc in
    let one : q ≡ r = one_same first place in
    ap (λ x. x ∷ qs) one ∙ ap (λ xs. r ∷ xs) (all_same qs rs more others)

-- The marks of a tree are settled by its tokens.
marks_settled : (f : LineForm) (ts : List Token) (qs : List Marked) → trees f ts qs → marks qs ≡ dots_at 0 ts
marks_settled f ts qs d = ap marks (sym d.3) ∙ (marks_at d.0 0 ∙ ap (dots_at 0) (sym d.1))

-- The law of the quads: they come from the machine, and their marks from the dots.
pub quads_settled : TokensSettleTheQuads
quads_settled f ts qs rs a b =
    all_same qs rs (same_quads any_iri f ts (unmarked qs) (unmarked rs) (marked_document any_iri f ts qs a) (marked_document any_iri f ts rs b))
    (marks_settled f ts qs a ∙ sym (marks_settled f ts rs b))

-- The law of what is due.
pub due_settled : TokensSettleWhatIsDue
due_settled f ts qs rs a b = same_due f ts qs rs a b

-- What is due is what the machine gave out, which begins the quads of each document.
pub due_begins : DueBeginsTheQuads
due_begins f ts more qs all d whole =
    let r = ran_viable has_scheme f ts (d.0, d.1, d.2) in
    let same : r.1 ≡ qs = sym (due_in f ts d.0 r.0 r.1 d.1 r.2 d.2) ∙ d.3 in
    let g = given_begin has_scheme f ts more r.0 r.1 (unmarked all) r.2 (marked_document has_scheme f (ts ++ more) all whole) in
    (g.0, g.1 ∙ ap (λ x. x ++ g.0) same)
