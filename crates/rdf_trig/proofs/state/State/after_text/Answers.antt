use Rattle.rdf_trig.proofs.Prelude.{◌≡◌, ◌⊎◌, ℕ, List, None, ⊎_elim, refl, Kind, LangTag, AtBase, AtPrefix, Leaf, Setting, tag_of, tagged_literal, text_in, place_in, setting_in, use_at}
use Rattle.rdf_trig.specs.Machine as M
use Rattle.rdf_trig.proofs.machine.Fallbacks.{text-else}
use Rattle.rdf_trig.proofs.code.TurnsLemmas.{means_at}
use Rattle.rdf_trig.proofs.state.State.after_text.Goals as goal

pub returns-in_default : goal.returns-in_default
returns-in_default g c =
    let self = c.args.self.now in
    let n = c.in_default in
    record {
      means = λ form. means_at form self c.args.kind c.after_object.result _ _
          (λ s l. text-else (setting_in s self) (text_in self) (place_in self) c.args.kind l n.not-LangTag n.not-AtBase n.not-AtPrefix n.not-Carets)
          (c.after_object.ensures.means form);
      suits = c.after_object.ensures.suits;
      frames = c.after_object.ensures.frames;
    }

-- each of the three kinds is the tag of the string
tag_after : (c : Setting) (w : List ℕ) (p : M.Place) (k : Kind) (l : Leaf) → (k ≡ LangTag) ⊎ ((k ≡ AtBase) ⊎ (k ≡ AtPrefix)) →
    M.after_text c w p k l ≡ M.Go (use_at c.scope k l) None (M.quad_at c p (tagged_literal w (tag_of l))) c (M.After p)
tag_after c w p k l h = ⊎_elim (λ e. rw e refl) (λ h. ⊎_elim (λ e. rw e refl) (λ e. rw e refl) h) h

pub returns-in-LangTag-clause-means : goal.returns-in-LangTag-clause-means
returns-in-LangTag-clause-means g c = λ form s l i n.
    let self = c.args.self.now in
    tag_after (setting_in s self) (text_in self) (place_in self) c.args.kind l c.in-LangTag.is
