-- The word, by its bytes and the byte after them.
use Rattle.rdf_tokens.proofs.Prelude.{◌≡◌, ◌==◌, ◌∙◌, ℕ, List, [], ◌∷◌, true, sym, subst, length, IsUtf8, and_parts, eqb-true, Turtle, True, False, IsRun, is_name_byte, is_word}
use Rattle.rdf_tokens.specs.Quick.{IsToken}
use Rattle.rdf_tokens.proofs.WordQuick.{quick_true, quick_false}
use Rattle.rdf_tokens.proofs.quick.word_at.Goals as goal

-- it ends after its last letter
ends : (w bs : List ℕ) (end : ℕ) → is_word w bs end ≡ true → end ≡ length w
ends w bs end h = eqb-true end (length w) (and_parts (end == length w) _ h).0

pub returns-then-is_word : goal.returns-then-is_word
returns-then-is_word c =
    let bs = c.as_bytes-bytes.result.now in
    let v = c.as_bytes-bytes.ensures.value in
    let is = sym c.is_word.ensures ∙ c.if-is_word.true in
    subst (λ n. IsToken Turtle c.args.text.now n True) (ends (116 ∷ 114 ∷ 117 ∷ 101 ∷ []) bs c.args.end is)
    (subst (λ b. IsToken Turtle b c.args.end True) v
    (quick_true bs c.args.end (subst IsUtf8 (sym v) c.utf8.text) (subst (λ b. IsRun is_name_byte b 1 c.args.end) (sym v) c.requires) is))

pub returns-then-is_word-2 : goal.returns-then-is_word-2
returns-then-is_word-2 c =
    let bs = c.as_bytes-bytes.result.now in
    let v = c.as_bytes-bytes.ensures.value in
    let is = sym c.is_word-2.ensures ∙ c.if-is_word-2.true in
    subst (λ n. IsToken Turtle c.args.text.now n False) (ends (102 ∷ 97 ∷ 108 ∷ 115 ∷ 101 ∷ []) bs c.args.end is)
    (subst (λ b. IsToken Turtle b c.args.end False) v
    (quick_false bs c.args.end (subst IsUtf8 (sym v) c.utf8.text) (subst (λ b. IsRun is_name_byte b 1 c.args.end) (sym v) c.requires) is))
