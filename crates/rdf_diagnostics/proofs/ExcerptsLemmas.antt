-- The bytes of some characters, and of one more.
use Rattle.rdf_diagnostics.proofs.Prelude.{◌≡◌, ◌∙◌, ℕ, ◌+◌, ◌<◌, List, [], ◌∷◌, ◌++◌, ap, append_assoc, encode_utf8, encode_utf8_all, get_or, length, sym, take, append-nil, take_more, encodes-append}

-- a text that has the characters before a place, and then the one at that place
pub put_one : (old text more : List ℕ) (cs : List ℕ) (i c : ℕ) → i < length cs → c ≡ get_or cs i c
    → text ≡ old ++ encode_utf8_all (take i cs) → more ≡ text ++ encode_utf8 c → more ≡ old ++ encode_utf8_all (take (i + 1) cs)
put_one old text more cs i c within is before put =
    let seen = encode_utf8_all (take i cs) in
    let next : take (i + 1) cs ≡ take i cs ++ c ∷ [] = take_more cs i c within ∙ ap (λ x. take i cs ++ x ∷ []) (sym is) in
    let bytes : encode_utf8_all (take (i + 1) cs) ≡ seen ++ encode_utf8 c =
    ap encode_utf8_all next ∙ (encodes-append (take i cs) (c ∷ []) ∙ ap (λ t. seen ++ t) (append-nil (encode_utf8 c))) in
    put ∙ (ap (λ t. t ++ encode_utf8 c) before ∙ (append_assoc old seen (encode_utf8 c) ∙ ap (λ t. old ++ t) (sym bytes)))
