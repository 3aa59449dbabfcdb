-- After the end a document is over, and each document has one.
use Rattle.rdf_trig.proofs.Prelude.{◌≡◌, ℕ, Bool, List, [], ◌∷◌, ◌++◌, refl, sym, ap, ◌∙◌, subst, append_assoc, End, Quad, Token, complete, tokens_of, Marked, InForce, Leaf, leaf_of, token, DocForm, Document, end, with_directive, with_body, directive_tokens, body_tokens, document_tokens, documents, Setting, Topic, Top, InBlock, Listed, InCollection, Around, Statement, InPropertyList, Start, Over, AfterText, After, AfterSemicolon, AfterPropertyList, Reply, No, Go, predicate_list_end, waiting, Answer, refuses, accepts, accept, ran, refused, accept_all}
use Rattle.rdf_terms.specs.declared.kind.Dialect.TheVariants.{Turtle as turtle}
use Rattle.rdf_tokens.proofs.GrammarsLemmas.{end_complete}
use Rattle.rdf_trig.specs.Machine.{Place as P, Mode, after, step}
use Rattle.rdf_trig.specs.Machine.{State, go}
use Rattle.rdf_trig.proofs.trees.TokensOfEvents.{document_told}
use Rattle.rdf_trig.proofs.machine.AcceptedTokens.{accepted, first_ran}

-- after the end a document is over
abbrev IsOver : Reply → Type 0
IsOver No = Unit {0}
IsOver (Go u early now c m) = m ≡ Over

-- each mode that takes the end, in turn
end_over : (c : Setting) (s : Topic) (a : Around) (l : Leaf) → IsOver (predicate_list_end c s a End l)
end_over c s (Statement Top) l = tt
end_over c s (Statement InBlock) l = tt
end_over c s (InPropertyList u) l = tt

-- after an object the end of the input is no token, or the last one
after_over : (c : Setting) (p : P) (l : Leaf) → IsOver (after c p End l)
after_over c (Listed s v a) l = end_over c s a l
after_over c (InCollection f n u) l = tt

-- in every mode the end of the input is refused, or leads to the end
step_over : (form : DocForm) (c : Setting) (m : Mode) (l : Leaf) → IsOver (step form c m End l)
step_over form c Start l = refl
step_over form c (After p) l = after_over c p l
step_over form c (AfterText w p) l = after_over c p l
step_over form c (AfterSemicolon s a) l = end_over c s a l
step_over form c (AfterPropertyList s v) l = end_over c s (Statement v) l
step_over form c m l = tt

-- so the token End, where it is accepted,
accept_over : (form : DocForm) (s n : State) (t : Token) (qs : List Quad) → accept form s t.kind (leaf_of t) ≡ accepts qs n → t.kind ≡ End → n.mode ≡ Over
accept_over form s n t qs e k =
    let a = accepted s.setting.scope.limits s t.kind (waiting s.setting s.mode t.kind (leaf_of t)) (step form s.setting s.mode t.kind (leaf_of t)) qs n e in
    let over = subst (λ x. IsOver (step form s.setting s.mode x (leaf_of t))) (sym k) (step_over form s.setting s.mode (leaf_of t)) in
    let over : a.mode ≡ Over = subst IsOver a.reply over in
    ap (λ (x : State). x.mode) a.state ∙ over

-- and a run whose last token it is.
pub ends_over : (form : DocForm) (ts : List Token) (t : Token) (s n : State) (qs : List Quad) → accept_all form s (ts ++ t ∷ []) ≡ ran n qs →
    t.kind ≡ End → n.mode ≡ Over
ends_over form [] t s n qs e k = by (accept form s t.kind (leaf_of t)) refl e
  where
    by : (a : Answer) → accept form s t.kind (leaf_of t) ≡ a → go a (λ x. ran x []) ≡ ran n qs → n.mode ≡ Over
    by (refuses r) h x = absurd (let z : refused r ≡ ran n qs = x in cc)
    by (accepts gs m) h x =
        let f = first_ran gs (ran m []) n qs x in
        let z : ran m [] ≡ ran n f.0 = f.1 in
        let same : m ≡ n = cc in
        ap (λ (y : State). y.mode) (sym same) ∙ accept_over form s m t gs h k
ends_over form (u ∷ ts) t s n qs e k = by (λ m rest h. ends_over form ts t m n rest h k) (accept form s u.kind (leaf_of u)) e
  where
    by : ((m : State) (rest : List Quad) → accept_all form m (ts ++ t ∷ []) ≡ ran n rest → n.mode ≡ Over) → (a : Answer) →
        go a (λ x. accept_all form x (ts ++ t ∷ [])) ≡ ran n qs → n.mode ≡ Over
    by ih (refuses r) x = absurd (let z : refused r ≡ ran n qs = x in cc)
    by ih (accepts gs m) x = let f = first_ran gs (accept_all form m (ts ++ t ∷ [])) n qs x in ih m f.0 f.1

-- a document ends with the end
pub document_end : {form : DocForm} (d : Document form) → (ts : List Token) × (t : Token) × (t.kind ≡ End) × (document_tokens d ≡ ts ++ t ∷ [])
document_end (end l) = ([], token End l, refl, refl)
document_end (with_directive d rest) =
    let h = document_end rest in
    (directive_tokens d ++ h.0, h.1, h.2, ap (λ x. directive_tokens d ++ x) h.3 ∙ sym (append_assoc (directive_tokens d) h.0 (h.1 ∷ [])))
document_end {form} (with_body b rest) =
    let h = document_end rest in
    (body_tokens form b ++ h.0, h.1, h.2, ap (λ x. body_tokens form b ++ x) h.3 ∙ sym (append_assoc (body_tokens form b) h.0 (h.1 ∷ [])))

-- Tokens of bytes that are a document are complete.
pub document_complete : (form : DocForm) (start : InForce) (limit : ℕ) (bytes : List ℕ) (e : Bool) (qs : List Marked) →
    documents form start (tokens_of turtle limit bytes e).tokens qs →
    (tokens_of turtle limit bytes e).outcome ≡ complete
document_complete form start limit bytes e qs d =
    let h = document_end d.0 in
    end_complete turtle limit bytes e h.0 [] h.1 (d.1 ∙ (document_told d.0 start ∙ h.3)) h.2
