-- A character as the form writes it: an escape, or itself.
use Rattle.rdf_lines.proofs.Prelude.{◌≡◌, ℕ, ◌<◌, false, [], ◌∷◌, ◌++◌, ap, sym, ◌∙◌, arith, encode_utf8_all, nat_le, cond-false, nat_tests, Escapes, Ascii, uchar, written}
use Rattle.rdf_lines.proofs.AsciiLemmas.{low_encodes}
use Rattle.rdf_lines.proofs.UcharLemmas.{uchar_low}
use Rattle.rdf_lines.proofs.WrittenBytesLemmas.{on_ok}
use Rattle.rdf_lines.proofs.writer.string.put_written.Goals as goal

-- the test of the form, as an order
high : (c : ℕ) → 127 < c → nat_le c 127 ≡ false
high c l = grind (arith, nat_tests)

-- above U+007F the form in ASCII writes an escape, whose characters are their own bytes
escape : (e : Escapes) (c : ℕ) → e ≡ Ascii → 127 < c → uchar c ≡ encode_utf8_all (written e c)
escape e c a l =
    sym (low_encodes (uchar c) (uchar_low c)) ∙ ap encode_utf8_all (sym (ap (λ f. written f c) a ∙ cond-false (nat_le c 127) (c ∷ []) (uchar c) (high c l)))

pub returns-in-Ascii-clause-written : goal.returns-in-Ascii-clause-written
returns-in-Ascii-clause-written g c =
    on_ok c.put_uchar.result (λ e. e ∙ ap (λ x. c.args.out.now.items ++ x) (escape c.args.escapes c.args.c c.in-Ascii.is c.if-c-gt127.true))
    c.put_uchar.ensures.written
