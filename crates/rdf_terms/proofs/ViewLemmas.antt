-- A list of quads shows each quad by its view.
use Rattle.rdf_terms.proofs.Prelude.{◌≡◌, ℕ, ◌<◌, ◌≤◌, List, length, get_or, map, Some, None, refl, sym, ap, ◌∙◌, slice_get, option_map}
use Rattle.std.proofs.lemmas.Option.{slice_get-map, slice_get_read, slice_get_past}

module _ {X Y : Type 0} (view : X → Y) (items shown : List X) (seen : List Y) (i : ℕ) (same : shown ≡ items) (is : map view items ≡ seen) where
  -- what stands at a place of one list is what that of the other is seen as
  seen_at : slice_get seen i ≡ option_map view (slice_get shown i)
  seen_at = ap (λ l. slice_get l i) (sym is) ∙ slice_get-map view items i ∙ ap (λ l. option_map view (slice_get l i)) (sym same)

  -- so where there is an element, the view of it is found
  pub seen_here : (x : X) (y : Y) → i < length shown → x ≡ get_or shown i x → y ≡ view x → Some y ≡ slice_get seen i
  seen_here x y h e f = ap Some f ∙ sym (seen_at ∙ ap (option_map view) (slice_get_read shown (length shown) i x refl h e))

  -- and past the end there is none, so an iterator over views ends with its list
  pub seen_past : length shown ≤ i → None ≡ slice_get seen i
  seen_past h = sym (seen_at ∙ ap (option_map view) (slice_get_past shown i h))
