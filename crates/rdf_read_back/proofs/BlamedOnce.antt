-- A token is refused for one reason.
use Rattle.rdf_read_back.proofs.Prelude.{◌≡◌, ◌⊎◌, inl, inr, false, List, [], ◌∷◌, ◌++◌, Some, None, refl, sym, ap, ◌∙◌, subst, ⊎_elim, append_assoc, arith, Kind, IriRef, PnameNs, PnameLn, OpenBracket, OpenParen, Reason, Unexpected, TooDeep, Unbound, NoBase, IriTooLong, TooManyBindings, Token, Viable, Leaf, leaf_of, InForce, DocForm, InTree, IsDeep, IsLong, IsOneMore, StandsFor, documents, opens, trees, Use, document_events, event_quads, itself, Reply, No, Go, Start, depth, in_default}
use Rattle.rdf_trig.specs.Events.{tokens}
use Rattle.rdf_trig.specs.Refusals.{Blamed}
use Rattle.rdf_trig.specs.Machine.{step}
use Rattle.rdf_trig.proofs.machine.DepthAndSense.{Facts, IsUse, step_facts}
use Rattle.rdf_trig.proofs.machine.ViableTokens.{Stand, any_passing, begins_reached, on_reply, reach, reach-snoc, stand, step_on, and_on}
use Rattle.rdf_trig.proofs.trees.BoundNames.{settled}
use Rattle.rdf_trig.proofs.trees.Senses.{same_sense, tokens_after}

-- an opening bracket stands for itself
opened_use : (s : InForce) (k : Kind) (l : Leaf) (u : Use) → opens k ≡ 1 → IsUse s k l u → u ≡ itself
opened_use s OpenBracket l u o h = h
opened_use s OpenParen l u o h = h
opened_use s k l u o h = absurd (let z : 0 ≡ 1 = o in omega arith)

module _ (form : DocForm) (start : InForce) (ahead : List Token) (t : Token) where
  -- the tokens of a tree in which it stands
  told : (u : Use) (p : InTree form start ahead t u) → tokens (document_events start p.tree) ≡ ahead ++ t ∷ tokens p.rest
  told u p = ap tokens p.events ∙ tokens_after p.front t u p.rest ∙ ap (λ x. x ++ t ∷ tokens p.rest) p.read

  -- so it is in a tree
  bracket_itself : (u : Use) → InTree form start ahead t u → opens t.kind ≡ 1 → u ≡ itself
  bracket_itself u p o =
      let all = any_passing (document_events start p.tree) in
      let s = begins_reached false form ahead start (p.tree, t ∷ tokens p.rest, told u p, all) in
      let n = begins_reached false form (ahead ++ t ∷ []) start (p.tree, tokens p.rest, told u p ∙ sym (append_assoc ahead (t ∷ []) (tokens p.rest)), all) in
      let z : step_on false form s.0 t ≡ Some n.0 = sym (reach-snoc false form ahead t (in_default start) Start ∙ ap (λ o. and_on false form o t) s.1) ∙ n.1 in
      by s.0 n.0 s.1 (step form (Stand.setting s.0) (Stand.mode s.0) t.kind (leaf_of t)) refl z
    where
      by : (s n : Stand) → reach false form (in_default start) Start ahead ≡ Some s → (r : Reply) → step form s.setting s.mode t.kind (leaf_of t) ≡ r →
          on_reply false r (λ c' m'. Some (stand c' m')) ≡ Some n → u ≡ itself
      by s n e No h z = absurd (let y : None ≡ Some n = z in cc)
      by s n e (Go x early now c m) h z =
          same_sense false form start ahead t s x u early now c m e h p
          ∙ opened_use s.setting.scope t.kind (leaf_of t) x o
          (subst (Facts (depth s.mode) s.setting.scope t.kind (leaf_of t)) h (step_facts form s.setting s.mode t.kind (leaf_of t))).1

  -- what stands for something in a document begins one
  stands_viable : (u : Use) → StandsFor form start ahead t u → Viable (documents form start) (ahead ++ t ∷ [])
  stands_viable u x = let p = x.place in (
    tokens p.rest,
    event_quads 0 (document_events start p.tree),
    (p.tree, append_assoc ahead (t ∷ []) (tokens p.rest) ∙ sym (told u p), x.bound, refl),
  )

  -- and a tree
  stands_shaped : (u : Use) → StandsFor form start ahead t u → Viable (trees form start) (ahead ++ t ∷ [])
  stands_shaped u x = let p = x.place in (
    tokens p.rest,
    event_quads 0 (document_events start p.tree),
    (p.tree, append_assoc ahead (t ∷ []) (tokens p.rest) ∙ sym (told u p), refl),
  )

  -- a bracket has no long IRI, and binds nothing
  deep_apart : (u : Use) → StandsFor form start ahead t u → IsDeep start ahead t → IsLong start.limits u ⊎ IsOneMore u → ⊥
  deep_apart u x d h =
      let e = bracket_itself u x.place d.0 in ⊎_elim (λ l. subst (IsLong start.limits) e l) (λ m. subst IsOneMore e m) h

  -- a name is no IRIREF
  no_reference : (t.kind ≡ PnameLn) ⊎ (t.kind ≡ PnameNs) → t.kind ≡ IriRef → ⊥
  no_reference n r = ⊎_elim (λ e. let z : PnameLn ≡ IriRef = sym e ∙ r in cc) (λ e. let z : PnameNs ≡ IriRef = sym e ∙ r in cc) n

  -- a long IRI is not that of a binding too many
  long_apart : (u v : Use) → StandsFor form start ahead t u → StandsFor form start ahead t v → IsLong start.limits u → (IsLong start.limits v → ⊥) → ⊥
  long_apart u v x y l n = n (subst (IsLong start.limits) (settled form start ahead t u v x.place y.place) l)

  -- So there is one reason for it.
  pub blamed_once : (r s : Reason) → Blamed form start r ahead t → Blamed form start s ahead t → r ≡ s
  blamed_once Unexpected Unexpected h k = refl
  blamed_once Unexpected Unbound h k = absurd (h k.0.shaped)
  blamed_once Unexpected NoBase h k = absurd (h k.0.shaped)
  blamed_once Unexpected TooDeep h k = absurd (h (stands_shaped k.0 k.1))
  blamed_once Unexpected IriTooLong h k = absurd (h (stands_shaped k.0 k.1))
  blamed_once Unexpected TooManyBindings h k = absurd (h (stands_shaped k.0 k.1))
  blamed_once Unexpected s h k = absurd k
  blamed_once Unbound Unexpected h k = absurd (k h.0.shaped)
  blamed_once Unbound Unbound h k = refl
  blamed_once Unbound NoBase h k = absurd (no_reference h.1.0 k.1.0)
  blamed_once Unbound TooDeep h k = absurd (h.0.excluded (stands_viable k.0 k.1))
  blamed_once Unbound IriTooLong h k = absurd (h.0.excluded (stands_viable k.0 k.1))
  blamed_once Unbound TooManyBindings h k = absurd (h.0.excluded (stands_viable k.0 k.1))
  blamed_once Unbound s h k = absurd k
  blamed_once NoBase Unexpected h k = absurd (k h.0.shaped)
  blamed_once NoBase Unbound h k = absurd (no_reference k.1.0 h.1.0)
  blamed_once NoBase NoBase h k = refl
  blamed_once NoBase TooDeep h k = absurd (h.0.excluded (stands_viable k.0 k.1))
  blamed_once NoBase IriTooLong h k = absurd (h.0.excluded (stands_viable k.0 k.1))
  blamed_once NoBase TooManyBindings h k = absurd (h.0.excluded (stands_viable k.0 k.1))
  blamed_once NoBase s h k = absurd k
  blamed_once TooDeep Unexpected h k = absurd (k (stands_shaped h.0 h.1))
  blamed_once TooDeep Unbound h k = absurd (k.0.excluded (stands_viable h.0 h.1))
  blamed_once TooDeep NoBase h k = absurd (k.0.excluded (stands_viable h.0 h.1))
  blamed_once TooDeep TooDeep h k = refl
  blamed_once TooDeep IriTooLong h k = absurd (deep_apart k.0 k.1 h.2 (inl k.2))
  blamed_once TooDeep TooManyBindings h k = absurd (deep_apart k.0 k.1 h.2 (inr k.2))
  blamed_once TooDeep s h k = absurd k
  blamed_once IriTooLong Unexpected h k = absurd (k (stands_shaped h.0 h.1))
  blamed_once IriTooLong Unbound h k = absurd (k.0.excluded (stands_viable h.0 h.1))
  blamed_once IriTooLong NoBase h k = absurd (k.0.excluded (stands_viable h.0 h.1))
  blamed_once IriTooLong TooDeep h k = absurd (deep_apart h.0 h.1 k.2 (inl h.2))
  blamed_once IriTooLong IriTooLong h k = refl
  blamed_once IriTooLong TooManyBindings h k = absurd (long_apart h.0 k.0 h.1 k.1 h.2 k.3)
  blamed_once IriTooLong s h k = absurd k
  blamed_once TooManyBindings Unexpected h k = absurd (k (stands_shaped h.0 h.1))
  blamed_once TooManyBindings Unbound h k = absurd (k.0.excluded (stands_viable h.0 h.1))
  blamed_once TooManyBindings NoBase h k = absurd (k.0.excluded (stands_viable h.0 h.1))
  blamed_once TooManyBindings TooDeep h k = absurd (deep_apart h.0 h.1 k.2 (inr h.2))
  blamed_once TooManyBindings IriTooLong h k = absurd (long_apart k.0 h.0 k.1 h.1 k.2 h.3)
  blamed_once TooManyBindings TooManyBindings h k = refl
  blamed_once TooManyBindings s h k = absurd k
  blamed_once r s h k = absurd h
