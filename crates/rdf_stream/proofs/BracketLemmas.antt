-- The brackets that are open after tokens that come one by one, in pieces.
use Rattle.rdf_stream.proofs.Prelude.{◌≡◌, ◌∙◌, ℕ, Bool, false, List, [], ◌∷◌, ◌++◌, take, drop, refl, sym, ap, subst, append_assoc, take-append-drop, Dialect, Token, tokens_of, GivesToken, ComesTo, IsNoted}
use Rattle.rdf_tokens.specs.Unread.{Unread}
use Rattle.rdf_tokens.specs.Scans.{TakesBytes}
use Rattle.rdf_tokens.proofs.LawLemmas.{given_beginning, lengthens}
use Rattle.rdf_stream.specs.declared.brackets.TokenPlace.{TokenPlace}
use Rattle.rdf_stream.specs.Brackets.{open_from, open_with, placed}

-- a token more
from_more : (kept : List TokenPlace) (ts : List Token) (t : Token) → open_from kept (ts ++ t ∷ []) ≡ open_with (open_from kept ts) (placed t)
from_more kept [] t = refl
from_more kept (u ∷ ts) t = from_more (open_with kept (placed u)) ts t

-- a token is given, and its bracket noted
pub noted_token : (v w : Unread) (kept new : List TokenPlace) (t : Token) (p : TokenPlace) (d : Dialect) (limit : ℕ) (bytes : List ℕ) →
    GivesToken v t w → p ≡ placed t → new ≡ open_with kept p → IsNoted v kept d limit bytes → IsNoted w new d limit bytes
noted_token v w kept new t p d limit bytes g e n h = record {
  dialect = g.same.dialect ∙ h.dialect;
  limit = g.same.limit ∙ h.limit;
  tokens = h.tokens ++ t ∷ [];
  scanned = g.read bytes h.tokens h.scanned;
  brackets = n ∙ (ap (open_with kept) e ∙ (ap (λ o. open_with o (placed t)) h.brackets ∙ sym (from_more [] h.tokens t)));
}

-- bytes are taken
pub noted_bytes : (v w : Unread) (kept : List TokenPlace) (piece : List ℕ) (n : ℕ) (d : Dialect) (limit : ℕ) (bytes : List ℕ) → TakesBytes v piece n w →
    IsNoted v kept d limit bytes → IsNoted w kept d limit (bytes ++ take n piece)
noted_bytes v w kept piece n d limit bytes g h = record {
  dialect = g.same.dialect ∙ h.dialect;
  limit = g.same.limit ∙ h.limit;
  tokens = h.tokens;
  scanned = g.read bytes h.tokens h.scanned;
  brackets = h.brackets;
}

-- the token at the place is given
pub comes_to : (v w : Unread) (kept : List TokenPlace) (t : Token) (p : TokenPlace) (d : Dialect) (limit : ℕ) (bytes : List ℕ) (until : ℕ) →
    GivesToken v t w → p ≡ placed t → p.offset ≡ until → IsNoted v kept d limit bytes → ComesTo (tokens_of d limit bytes v.ended) until kept
comes_to v w kept t p d limit bytes until g e at h =
    let x = given_beginning w bytes (h.tokens ++ t ∷ []) (g.read bytes h.tokens h.scanned) in
    let here : (tokens_of d limit bytes v.ended).tokens ≡ (h.tokens ++ t ∷ []) ++ x.0 =
    subst (λ e. (tokens_of d limit bytes e).tokens ≡ (h.tokens ++ t ∷ []) ++ x.0) g.ended
    (subst (λ d. (tokens_of d limit bytes w.ended).tokens ≡ (h.tokens ++ t ∷ []) ++ x.0) (g.same.dialect ∙ h.dialect)
    (subst (λ l. (tokens_of w.dialect l bytes w.ended).tokens ≡ (h.tokens ++ t ∷ []) ++ x.0) (g.same.limit ∙ h.limit) x.1)) in
    record {
      ahead = h.tokens;
      token = t;
      after = x.0;
      tokens = here ∙ append_assoc h.tokens (t ∷ []) x.0;
      place = ap (λ q. q.offset) (sym e) ∙ at;
      brackets = h.brackets;
    }

-- it stands there too where more bytes come
pub comes_with_more : (d : Dialect) (limit : ℕ) (front more : List ℕ) (e : Bool) (until : ℕ) (kept : List TokenPlace) →
    ComesTo (tokens_of d limit front false) until kept →
    ComesTo (tokens_of d limit (front ++ more) e) until kept
comes_with_more d limit front more e until kept h =
    let x = (lengthens d limit front more e).0 in
    record {
      ahead = h.ahead;
      token = h.token;
      after = h.after ++ x.0;
      tokens = x.1 ∙ (ap (λ ts. ts ++ x.0) h.tokens ∙ append_assoc h.ahead (h.token ∷ h.after) x.0);
      place = h.place;
      brackets = h.brackets;
    }

-- what is taken of a piece stands behind what was taken of it before
pub front_more : (piece front rest left : List ℕ) (n : ℕ) → piece ≡ front ++ rest → left ≡ drop n rest → piece ≡ (front ++ take n rest) ++ left
front_more piece front rest left n e h =
    e ∙ (ap (λ r. front ++ r) (sym (take-append-drop n rest))
    ∙ (sym (append_assoc front (take n rest) (drop n rest)) ∙ ap (λ r. (front ++ take n rest) ++ r) (sym h)))

-- and what is left of it behind that
pub whole_piece : (bytes piece front rest : List ℕ) (n : ℕ) → piece ≡ front ++ rest → ((bytes ++ front) ++ take n rest) ++ drop n rest ≡ bytes ++ piece
whole_piece bytes piece front rest n e =
    append_assoc (bytes ++ front) (take n rest) (drop n rest)
    ∙ (ap (λ r. (bytes ++ front) ++ r) (take-append-drop n rest) ∙ (append_assoc bytes front rest ∙ ap (λ p. bytes ++ p) (sym e)))
