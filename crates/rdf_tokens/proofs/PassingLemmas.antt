-- Bytes that a scanner passes are read.
use Rattle.rdf_tokens.proofs.Prelude.{◌≡◌, ◌||◌, ◌&&◌, ◌==◌, ℕ, Bool, true, false, not, List, [], ◌∷◌, ◌++◌, refl, sym, ap, ◌∙◌, subst, length, take, drop, is_some, arith, chars, IsUtf8, utf8_valid_len, utf8_error_len, cond-false, and_parts, eqb-true, append-nil, take_all, drop_all, utf8_valid_len-IsUtf8, Dialect, Place, Token, past, tokens, with_tokens, is_empty, undecided, good, tokens_of, Unread, beyond, grown, rest_of_bytes, is_broken, Moves, HasScanned}
use Rattle.rdf_tokens.specs.Tokens.Tail.{goes_on}
use Rattle.rdf_tokens.specs.Passing.{is_idle, passed, Spells, PassedTokensAreRead}
use Rattle.rdf_tokens.proofs.GoodLemmas.{utf8_error_len-nil}
use Rattle.rdf_tokens.proofs.PlaceLemmas.{past-chars}
use Rattle.rdf_tokens.proofs.ReadLemmas.{read_push, read_on, read_now, begins_nil}
use Rattle.rdf_tokens.proofs.LawLemmas.{nothing_yet}

-- a scanner that has given all that came, by its parts
abbrev idle : ℕ → Dialect → ℕ → Place → Place → List ℕ → Unread
idle held d limit place taken w = record {
  dialect = d;
  limit = limit;
  place = place;
  begun = true;
  comment = false;
  text = w;
  pending = [];
  broken = false;
  taken = taken;
  ended = false;
  stopped = false;
  held = held;
}

-- neither of two
none : (b c : Bool) → (b || c) ≡ false → (b ≡ false) × (c ≡ false)
none true c e = absurd (let h : true ≡ false = e in cc)
none false c e = (refl, e)

is_not : (b : Bool) → not b ≡ true → b ≡ false
is_not true e = absurd (let h : false ≡ true = e in cc)
is_not false e = refl

empty : (w : List ℕ) → is_empty w ≡ true → w ≡ []
empty [] e = refl
empty (c ∷ w) e = absurd (let h : false ≡ true = e in cc)

none_left : (w : List ℕ) → (length w == 0) ≡ true → w ≡ []
none_left [] e = refl
none_left (c ∷ w) e = let n : length (c ∷ w) ≡ 0 = eqb-true (length (c ∷ w)) 0 e in absurd (omega arith)

pub is_idle-parts : (v : Unread) → is_idle v ≡ true → v ≡ idle v.held v.dialect v.limit v.place v.taken []
is_idle-parts v e =
    let a = and_parts (not (v.stopped || v.ended || v.broken || v.comment) && v.begun && is_empty v.text) (length v.pending == 0) e in
    let b = and_parts (not (v.stopped || v.ended || v.broken || v.comment) && v.begun) (is_empty v.text) a.0 in
    let d = and_parts (not (v.stopped || v.ended || v.broken || v.comment)) v.begun b.0 in
    parts v d.0 d.1 (empty v.text b.1) (none_left v.pending a.1)
  where
    parts : (v : Unread) → not (v.stopped || v.ended || v.broken || v.comment) ≡ true → v.begun ≡ true → v.text ≡ [] → v.pending ≡ [] →
        v ≡ idle v.held v.dialect v.limit v.place v.taken []
    parts v n g t p =
        let a = none (v.stopped || v.ended || v.broken) v.comment (is_not (v.stopped || v.ended || v.broken || v.comment) n) in
        let b = none (v.stopped || v.ended) v.broken a.0 in
        let d = none v.stopped v.ended b.0 in
        same v d.0 d.1 b.1 a.1 g t p
      where
        same : (v : Unread) → v.stopped ≡ false → v.ended ≡ false → v.broken ≡ false → v.comment ≡ false → v.begun ≡ true → v.text ≡ [] →
            v.pending ≡ [] → v ≡ idle v.held v.dialect v.limit v.place v.taken []
        same v a b c d e f g = fields a b c d e f g
          where
            fields : {s n k m h : Bool} {t q : List ℕ} → s ≡ false → n ≡ false → k ≡ false → m ≡ false → h ≡ true → t ≡ [] → q ≡ [] →
                (let w : Unread = record {
                  dialect = v.dialect;
                  limit = v.limit;
                  place = v.place;
                  begun = h;
                  comment = m;
                  text = t;
                  pending = q;
                  broken = k;
                  taken = v.taken;
                  ended = n;
                  stopped = s;
                  held = v.held;
                } in w)
                ≡ idle v.held v.dialect v.limit v.place v.taken []
            fields a b c d e f g = cc

module _ (piece : List ℕ) (u : IsUtf8 piece) where
  whole : utf8_valid_len piece ≡ length piece
  whole = utf8_valid_len-IsUtf8 piece u

  good_whole : good piece ≡ chars piece
  good_whole = ap chars (ap (λ x. take x piece) whole ∙ take_all (length piece) piece (omega arith))

  rest_none : rest_of_bytes piece ≡ []
  rest_none = ap (λ x. drop x piece) whole ∙ drop_all (length piece) piece (omega arith)

  unbroken : is_broken piece ≡ false
  unbroken = ap (λ x. is_some (utf8_error_len x)) rest_none ∙ ap is_some utf8_error_len-nil

  grown_idle : (held : ℕ) (d : Dialect) (limit : ℕ) (p t : Place) → grown (idle held d limit p t []) piece ≡ idle held d limit p (beyond t piece) (chars piece)
  grown_idle held d limit p t = same_fields good_whole (cond-false (is_broken piece) [] (rest_of_bytes piece) unbroken ∙ rest_none) unbroken
    where
      same_fields : {x : List ℕ} {y : List ℕ} {b : Bool} → x ≡ chars piece → y ≡ [] → b ≡ false →
          (let v : Unread = record {
            dialect = d;
            limit = limit;
            place = p;
            begun = true;
            comment = false;
            text = x;
            pending = y;
            broken = b;
            taken = beyond t piece;
            ended = false;
            stopped = false;
            held = held;
          } in v)
          ≡ idle held d limit p (beyond t piece) (chars piece)
      same_fields e f g = cc

  idle_read : (held : ℕ) (d : Dialect) (limit : ℕ) (p t : Place) (bytes : List ℕ) (ts us : List Token) →
      HasScanned (idle held d limit p t []) bytes ts → Spells d limit p (chars piece) us →
      HasScanned (idle held d limit (beyond p piece) (beyond t piece) []) (bytes ++ piece) (ts ++ us)
  idle_read held d limit p t bytes ts us r s =
      let v = idle held d limit p (beyond t piece) (chars piece) in
      let w = idle held d limit (past p (chars piece)) (beyond t piece) [] in
      let m : Moves v us w = record { same = refl; less = omega arith; on = λ tail x may. s tail x } in
      let pushed = subst (λ x. HasScanned x (bytes ++ piece) ts) (grown_idle held d limit p t)
      (read_push (idle held d limit p t []) bytes piece ts refl refl r) in
      subst (λ q. HasScanned (idle held d limit q (beyond t piece) []) (bytes ++ piece) (ts ++ us)) (past-chars p piece u)
      (read_on v w (bytes ++ piece) ts us refl begins_nil m pushed)

pub passed_read : PassedTokensAreRead
passed_read v bytes piece ts us r e u s =
    let i = is_idle-parts v e in
    subst (λ x. HasScanned x (bytes ++ piece) (ts ++ us)) (sym (ap (λ x. passed x piece) i))
    (idle_read piece u v.held v.dialect v.limit v.place v.taken bytes ts us (subst (λ x. HasScanned x bytes ts) i r) s)

-- between two tokens those that were given are all that the bytes decide
pub idle_decides : (v : Unread) (bytes : List ℕ) (ts : List Token) → is_idle v ≡ true → HasScanned v bytes ts →
    ((tokens_of v.dialect v.limit bytes false).tokens ≡ ts) × ((tokens_of v.dialect v.limit bytes false).outcome ≡ undecided)
idle_decides v bytes ts e r =
    let i = is_idle-parts v e in
    let n = nothing_yet v.dialect v.limit false v.place in
    let now : tokens_of v.dialect v.limit bytes false ≡ with_tokens ts (tokens v.dialect v.limit goes_on false v.place []) =
    read_now (idle v.held v.dialect v.limit v.place v.taken []) bytes ts refl begins_nil (subst (λ x. HasScanned x bytes ts) i r) in (
      ap (λ x. x.tokens) now ∙ (ap (λ x. ts ++ x.tokens) n ∙ append-nil ts),
      ap (λ x. x.outcome) now ∙ ap (λ x. x.outcome) n,
    )
