-- Lines as they are written are read, wherever a line may begin.
use Rattle.rdf_lines.proofs.Prelude.{◌≡◌, ℕ, ◌+◌, ◌≤◌, Bool, true, false, List, [], ◌∷◌, ◌++◌, refl, sym, ap, ◌∙◌, subst, length, Option, Some, None, arith, length-append, flat_map, bytes_eq, AllByRecursion, chars, IsUtf8, chars-encodes, scalars, IriRef, Dot, LineEnd, Lang, Typed, Subject, Blank, Term, Resource, Literal, Quad, xsd_string, has_scheme, Place, Token, past, tokens, with_tokens, Lines, LineForm, NTriples, NQuads, LineEnding, Lf, CrLf, Kept, Rules, statement_tokens, name_tokens, object_tokens, graph_tokens, graph_fits, GoodStatement, IrisWithin, Begin, AfterDot, ran, with_quad, run, is_taken, end_text, end_count, statement_text, ended_line, ended_lines, type_count, term_count, graph_count, quad_count, count, LabelFits, IsTaken, CanonicalLinesAreRead, rename_node, rename, quad_text, text}
use Rattle.rdf_terms.specs.Terms.{Iri}
use Rattle.rdf_lines.specs.declared.form.Escapes.TheVariants.{Plain}
use Rattle.rdf_tokens.specs.Leaves.{token}
use Rattle.rdf_lines.specs.Lines.{quad_of}
use Rattle.rdf_lines.proofs.AcceptedLemmas.{statement_taken}
use Rattle.rdf_lines.proofs.NodePrefixLemmas.{quad_same}
use Rattle.rdf_lines.proofs.Complete.{run_statement}
use Rattle.rdf_lines.proofs.Runs.{with_quads, then, run_append}
use Rattle.rdf_lines.proofs.SpelledLine.{AllShort, Spells, Written, alone, upto_object, upto_predicate, name_tree, typed_tree, object_tree, graph_tree, statement_tree, statement_meant, statement_short, short_both, spells_nothing, spells_then, spells_statement, spells_line_end, spells_cr}
use Rattle.rdf_lines.proofs.WrittenText.{scalars_append, statement_scalars}

-- those of a line's end
abbrev pub end_tokens : LineEnding → Place → List Token
end_tokens Lf p = alone LineEnd (10 ∷ []) p
end_tokens CrLf p = alone LineEnd (13 ∷ []) p ++ alone LineEnd (10 ∷ []) (past p (13 ∷ []))

-- the tokens of a quad's line that begins at a place
abbrev quad_tokens : LineEnding → Quad → Place → List Token
quad_tokens ending q p = statement_tokens (statement_tree Plain p q) ++ end_tokens ending (past p (statement_text q))

abbrev lines_tokens : LineEnding → List Quad → Place → List Token
lines_tokens ending [] p = []
lines_tokens ending (q ∷ qs) p = quad_tokens ending q p ++ lines_tokens ending qs (past p (ended_line ending q))

-- with the labels kept a quad is as it was, which lets the laws speak of the quads themselves
kept : (q : Quad) → rename Kept q ≡ q
kept q = quad_same (rename_node Kept) (λ n. refl) q

-- so the text of quads is what `write_line` writes, line by line
pub text_kept : (qs : List Quad) → text Kept Plain qs ≡ flat_map (quad_text Plain) qs
text_kept [] = refl
text_kept (q ∷ qs) = ap (λ x. quad_text Plain x ++ text Kept Plain qs) (kept q) ∙ ap (λ x. quad_text Plain q ++ x) (text_kept qs)

-- how many tokens there are
subject_counted : (p : Place) (s : Subject) → length (name_tokens (name_tree Plain p s)) ≡ 1
subject_counted p (Iri i) = refl
subject_counted p (Blank n) = refl

-- a literal with a datatype: its string, and two carets and an IRI where the type is written
typed_counted : (p : Place) (b : Bool) (w i : List ℕ) → length (object_tokens (typed_tree Plain b p w i)) ≡ 1 + type_count b
typed_counted p true w i = refl
typed_counted p false w i = refl

-- an object is one token, or as many as its literal is written with
term_counted : (p : Place) (t : Term) → length (object_tokens (object_tree Plain p t)) ≡ term_count t
term_counted p (Resource s) = subject_counted p s
term_counted p (Literal w (Lang t)) = refl
term_counted p (Literal w (Typed i)) = typed_counted p (bytes_eq i xsd_string) w i

-- a graph label is one token, and where there is none there is no token
graph_counted : (p : Place) (g : Option Subject) → length (graph_tokens (graph_tree Plain p g)) ≡ graph_count g
graph_counted p None = refl
graph_counted p (Some g) = subject_counted p g

-- the end of a line: one token, or two with a CR
pub end_counted : (ending : LineEnding) (p : Place) → length (end_tokens ending p) ≡ end_count ending
end_counted Lf p = refl
end_counted CrLf p = refl

-- a line has the tokens of its parts, its dot and its end
quad_counted : (ending : LineEnding) (q : Quad) (p : Place) → length (quad_tokens ending q p) ≡ quad_count ending q
quad_counted ending q p =
    let s = statement_tree Plain p q in
    let head = name_tokens s.subject in
    let object = object_tokens s.object in
    let graph = graph_tokens s.graph in
    let a = subject_counted p q.subject in
    let b = term_counted (past p (upto_predicate Plain q)) q.object in
    let c = graph_counted (past p (upto_object Plain q)) q.graph in
    let end = end_tokens ending (past p (statement_text q)) in
    counted head object graph end (token IriRef s.predicate) (token Dot s.dot) a b c (end_counted ending (past p (statement_text q)))
  where
    counted : (head object graph end : List Token) (d e : Token) → length head ≡ 1 → length object ≡ term_count q.object →
        length graph ≡ graph_count q.graph → length end ≡ end_count ending →
        length (((head ++ (d ∷ []) ++ object ++ graph) ++ (e ∷ [])) ++ end) ≡ quad_count ending q
    counted head object graph end d e a b c f =
        let z = length-append ((head ++ (d ∷ []) ++ object ++ graph) ++ (e ∷ [])) end in
        let y = length-append (head ++ (d ∷ []) ++ object ++ graph) (e ∷ []) in
        let x = length-append (head ++ (d ∷ []) ++ object) graph in
        let w = length-append (head ++ (d ∷ [])) object in
        let v = length-append head (d ∷ []) in
        omega (arith, z, y, x, w, v, a, b, c, f)

-- lines have those of each, so the reader's counts move on as if it had read them
lines_counted : (ending : LineEnding) (qs : List Quad) (p : Place) → count ending qs ≡ length (lines_tokens ending qs p)
lines_counted ending [] p = refl
lines_counted ending (q ∷ qs) p =
    let next = past p (ended_line ending q) in
    let rest = lines_tokens ending qs next in
    omega (arith, quad_counted ending q p, lines_counted ending qs next, length-append (quad_tokens ending q p) rest)

-- they are good text
ended_scalars : (ending : LineEnding) (qs : List Quad) → Written qs → scalars (ended_lines ending qs) ≡ true
ended_scalars ending [] h = refl
ended_scalars ending (q ∷ qs) h =
    scalars_append (ended_line ending q) (ended_lines ending qs) (scalars_append (statement_text q) (end_text ending)
    (statement_scalars Plain q h.0.0 h.0.1) (end_scalars ending)) (ended_scalars ending qs h.1)
  where
    end_scalars : (e : LineEnding) → scalars (end_text e) ≡ true
    end_scalars Lf = refl
    end_scalars CrLf = refl

-- quads whose lines are passed can be written
pub written_quads : (form : LineForm) (limit iri : ℕ) (qs : List Quad) → AllByRecursion (IsTaken form limit iri) qs → Written qs
written_quads form limit iri [] h = tt
written_quads form limit iri (q ∷ qs) h = ((h.0.quad, h.0.labels), written_quads form limit iri qs h.1)

module _ (ending : LineEnding) (form : LineForm) (limit iri : ℕ) where
  -- they are spelled
  pub spells_end : (e : LineEnding) → Spells limit (end_text e) (end_tokens e)
  spells_end Lf = spells_line_end Plain limit
  spells_end CrLf = spells_then limit (13 ∷ []) (10 ∷ []) (alone LineEnd (13 ∷ [])) (alone LineEnd (10 ∷ [])) (spells_cr Plain limit)
      (spells_line_end Plain limit)

  -- the tokens of the lines are those that the scanner would find
  spells_lines : (qs : List Quad) → Written qs → Spells limit (ended_lines ending qs) (lines_tokens ending qs)
  spells_lines [] h = spells_nothing limit
  spells_lines (q ∷ qs) h =
      spells_then limit (ended_line ending q) (ended_lines ending qs) (quad_tokens ending q) (lines_tokens ending qs)
      (spells_then limit (statement_text q) (end_text ending) (λ p. statement_tokens (statement_tree Plain p q)) (end_tokens ending)
      (spells_statement Plain limit q h.0.0 h.0.1) (spells_end ending))
      (spells_lines qs h.1)

  -- the end of a line keeps every limit of at least two
  pub end_short : 2 ≤ limit → (e : LineEnding) (p : Place) → AllShort limit (end_tokens e p)
  end_short l Lf p = (omega arith, tt)
  end_short l CrLf p = (omega arith, (omega arith, tt))

  -- no token of the lines passes the limit
  lines_short : 2 ≤ limit → (qs : List Quad) → AllByRecursion (IsTaken form limit iri) qs → (p : Place) → AllShort limit (lines_tokens ending qs p)
  lines_short e [] h p = tt
  lines_short e (q ∷ qs) h p =
      short_both limit (quad_tokens ending q p) (lines_tokens ending qs (past p (ended_line ending q)))
      (short_both limit (statement_tokens (statement_tree Plain p q)) (end_tokens ending (past p (statement_text q)))
      (statement_short Plain limit p q e h.0.tokens) (end_short e ending (past p (statement_text q))))
      (lines_short e qs h.1 (past p (ended_line ending q)))

  -- and the machine accepts them
  fits : (f : LineForm) (p : Place) (g : Option Subject) → LabelFits f g → graph_fits f (graph_tree Plain p g)
  fits NTriples p g h = ap (graph_tree Plain p) h
  fits NQuads p g h = tt

  -- after the end of a line the machine is where a statement begins
  pub end_ran : (e : LineEnding) (p : Place) → run (is_taken iri) form AfterDot (end_tokens e p) ≡ ran Begin []
  end_ran Lf p = refl
  end_ran CrLf p = refl

  -- the tokens of one line bring its quad
  quad_ran : (q : Quad) (p : Place) → IsTaken form limit iri q → run (is_taken iri) form Begin (quad_tokens ending q p) ≡ ran Begin (q ∷ [])
  quad_ran q p h =
      let m = statement_meant Plain p q h.quad h.labels in
      let good : GoodStatement has_scheme form (statement_tree Plain p q) = record {
        subject = m.1.subject;
        predicate = m.1.predicate;
        object = m.1.object;
        graph = m.1.graph;
        labels = fits form (past p (upto_object Plain q)) q.graph h.graph;
      } in
      let end = past p (statement_text q) in
      run_statement (is_taken iri) form (statement_tree Plain p q) (end_tokens ending end)
      (statement_taken iri form (statement_tree Plain p q) good (subst (IrisWithin iri) (sym m.0) h.iris))
      ∙ (ap (with_quad (quad_of (statement_tree Plain p q))) (end_ran ending end)
      ∙ ap (λ x. with_quad x (ran Begin [])) m.0)

  -- those of all lines bring their quads, in order
  lines_ran : (qs : List Quad) (p : Place) → AllByRecursion (IsTaken form limit iri) qs →
      run (is_taken iri) form Begin (lines_tokens ending qs p) ≡ ran Begin qs
  lines_ran [] p h = refl
  lines_ran (q ∷ qs) p h =
      let next = past p (ended_line ending q) in
      let rest = lines_tokens ending qs next in
      run_append (is_taken iri) form (quad_tokens ending q p) rest Begin
      ∙ (ap (λ r. then r (λ m. run (is_taken iri) form m rest)) (quad_ran q p h.0)
      ∙ ap (with_quads (q ∷ [])) (lines_ran qs next h.1))

-- the law: a reader that passes lines is where reading them would have left it
pub lines_read : CanonicalLinesAreRead
lines_read r ending bytes qs begin e h =
    let rules = r.grammar.rules in
    let limit = r.scanner.limit in
    let w = ended_lines ending qs in
    let wr = written_quads rules.form limit rules.iri qs h.each in
    let s = ended_scalars ending qs wr in
    let characters : chars bytes ≡ w = ap chars h.is ∙ chars-encodes w s in
    let p = r.scanner.place in
    let ts = lines_tokens ending qs p in
    record {
      utf8 = subst IsUtf8 (sym h.is) (w, (s, refl));
      spelled = ts;
      count = lines_counted ending qs p;
      spells = λ tail more.
          subst (λ x. tokens Lines limit tail false p (x ++ more) ≡ with_tokens ts (tokens Lines limit tail false (past p x) more)) (sym characters)
          ((spells_lines ending rules.form limit rules.iri qs wr).reads tail p more (lines_short ending rules.form limit rules.iri e qs h.each p));
      reached = λ x us given a. (
        a.0,
        subst (λ y. run (is_taken y.iri) y.form Begin (us ++ ts) ≡ ran r.grammar.mode (given ++ qs)) a.0
            (run_append (is_taken rules.iri) rules.form us ts Begin
            ∙ (ap (λ z. then z (λ m. run (is_taken rules.iri) rules.form m ts))
            (subst (λ (y : Rules). run (is_taken y.iri) y.form Begin us ≡ ran r.grammar.mode given) (sym a.0) a.1)
            ∙ (ap (λ m. with_quads given (run (is_taken rules.iri) rules.form m ts)) begin
            ∙ (ap (with_quads given) (lines_ran ending rules.form limit rules.iri qs p h.each)
            ∙ ap (λ m. ran m (given ++ qs)) (sym begin))))),
      );
    }
