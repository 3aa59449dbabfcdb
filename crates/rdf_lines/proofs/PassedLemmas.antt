-- What passing lines does to a reader.
use Rattle.rdf_lines.proofs.Prelude.{◌≡◌, ℕ, ◌≤◌, true, false, List, [], ◌++◌, length, refl, sym, ap, ◌∙◌, subst, IsUtf8, append-nil, IsUtf8-past_char, encode, encodes, ◌∷◌, append_assoc, Quad, Driven, HasRead, passed, LeadsBack, Rules, LineForm, LineEnding, Mode, Begin, AfterSubject, AfterPredicate, AfterString, AfterCarets, AfterObject, AfterGraph, AfterDot, Finished, is_begin, LineAt, line_words, ended_lines, PassesLines, LinesStand, AreLines}
use Rattle.rdf_lines.proofs.CanonicalLines.{lines_read}

-- what comes after a text is UTF-8
pub past_text : (w bytes rest : List ℕ) → IsUtf8 bytes → bytes ≡ encodes w ++ rest → IsUtf8 rest
past_text [] bytes rest u e = subst IsUtf8 e u
past_text (c ∷ w) bytes rest u e =
    past_text w (encodes w ++ rest) rest (IsUtf8-past_char bytes (encodes w ++ rest) c u (e ∙ append_assoc (encode c) (encodes w) rest)) refl

-- so the code may go on with what is left after the lines
pub rest_utf8 : (ending : LineEnding) (form : LineForm) (token iri n m : ℕ) (a b : List ℕ) → IsUtf8 a → LinesStand ending form token iri n m a b → IsUtf8 b
rest_utf8 ending form token iri n m a b u h = past_text (ended_lines ending h.given) a b u h.stands

-- the code asks this by a test, and the law needs the mode itself
pub begins : (m : Mode) → is_begin m ≡ true → m ≡ Begin
begins Begin e = refl
begins (AfterSubject s) e = absurd (let h : false ≡ true = e in cc)
begins (AfterPredicate s p) e = absurd (let h : false ≡ true = e in cc)
begins (AfterString s p w) e = absurd (let h : false ≡ true = e in cc)
begins (AfterCarets s p w) e = absurd (let h : false ≡ true = e in cc)
begins (AfterObject s p o) e = absurd (let h : false ≡ true = e in cc)
begins (AfterGraph s p o g) e = absurd (let h : false ≡ true = e in cc)
begins AfterDot e = absurd (let h : false ≡ true = e in cc)
begins Finished e = absurd (let h : false ≡ true = e in cc)

-- what a grammar knows of lines, its reader knows
pub at_reader : (ending : LineEnding) (r : Driven LineAt) (g : LineAt) → g ≡ r.grammar → r.scanner.limit ≡ r.grammar.limit →
    (bytes : List ℕ) (quads tokens : ℕ) →
    AreLines ending g.rules.form g.limit g.rules.iri quads tokens bytes → (g.mode ≡ Begin) × (2 ≤ g.limit) →
    AreLines ending r.grammar.rules.form r.scanner.limit r.grammar.rules.iri quads tokens bytes × ((r.grammar.mode ≡ Begin) × (2 ≤ r.scanner.limit))
at_reader ending r g e l bytes quads tokens lines b =
    let lines_here = subst (λ (y : LineAt). AreLines ending y.rules.form y.limit y.rules.iri quads tokens bytes) e lines in
    let begin : r.grammar.mode ≡ Begin = ap (λ (y : LineAt). y.mode) (sym e) ∙ b.0 in
    let roomy : 2 ≤ r.grammar.limit = subst (λ (y : LineAt). 2 ≤ y.limit) e b.1 in
    (subst (λ n. AreLines ending r.grammar.rules.form n r.grammar.rules.iri quads tokens bytes) (sym l) lines_here, (begin, subst (λ n. 2 ≤ n) (sym l) roomy))

-- a grammar that passes nothing leaves the reader as it is
pub passes_none : (ending : LineEnding) (r : Driven LineAt) → PassesLines ending r [] r
passes_none ending r = record {
  given = [];
  canonical = record { is = refl; each = tt };
  grammar = refl;
  limit = refl;
  done = refl;
  read = λ x before quads h. subst (λ u. HasRead line_words r x u (quads ++ [])) (sym (append-nil before))
      (subst (HasRead line_words r x before) (sym (append-nil quads)) h);
}

module _ (ending : LineEnding) (r : Driven LineAt) (begin : r.grammar.mode ≡ Begin) (roomy : 2 ≤ r.scanner.limit) (bytes : List ℕ) (quads tokens : ℕ)
    (lines : AreLines ending r.grammar.rules.form r.scanner.limit r.grammar.rules.iri quads tokens bytes) where
  back : LeadsBack line_words r bytes lines.given tokens
  back = subst (LeadsBack line_words r bytes lines.given) (sym lines.token_count) (lines_read r ending bytes lines.given begin roomy lines.canonical)

  pub leads : (more : List Quad) × (quads ≡ length more) × LeadsBack line_words r bytes more tokens
  leads = (lines.given, lines.quad_count, back)

  pub passes : (new : Driven LineAt) → new ≡ passed r bytes quads tokens →
      ((more : List Quad) → quads ≡ length more → LeadsBack line_words r bytes more tokens → (x : Rules) (before : List ℕ)
      (given : List Quad) → HasRead line_words r x before given → HasRead line_words new x (before ++ bytes) (given ++ more)) →
      PassesLines ending r bytes new
  passes new e reads = record {
    given = lines.given;
    canonical = lines.canonical;
    grammar = ap (λ (y : Driven LineAt). y.grammar) e;
    limit = ap (λ (y : Driven LineAt). y.scanner.limit) e;
    done = ap (λ (y : Driven LineAt). y.done) e;
    read = reads lines.given lines.quad_count back;
  }
