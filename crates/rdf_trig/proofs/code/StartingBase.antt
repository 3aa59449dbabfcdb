-- The base that a reader begins with.
use Rattle.rdf_trig.proofs.Prelude.{◌≡◌, ◌≤◌, ℕ, true, List, length, Option, Some, sym, ap, ◌∙◌, subst, arith, nat_le, chars, IsUtf8, le-leb, leb-true, Sizes, byte_len, BaseFits, byte_len-chars}

module _ (base : Option (List ℕ)) (i w : List ℕ) (n : ℕ) (limits : Sizes) (is : base ≡ Some i) (text : chars w ≡ i) (utf8 : IsUtf8 w)
    (limit : n ≡ limits.iri) where
  bytes : byte_len i ≡ length w
  bytes = ap byte_len (sym text) ∙ byte_len-chars w utf8

  pub fits_yes : nat_le (length w) n ≡ true → BaseFits base limits
  fits_yes h =
      let l = leb-true (length w) n h in
      let b = bytes in
      let m = limit in
      subst (λ x. BaseFits x limits) (sym is) (omega (arith, l, b, m))

  pub fits_no : BaseFits base limits → nat_le (length w) n ≡ true
  fits_no h =
      let l : byte_len i ≤ limits.iri = subst (λ x. BaseFits x limits) is h in
      let b = bytes in
      let m = limit in
      le-leb (length w) n (omega (arith, l, b, m))
