use Rattle.rdf_diagnostics.proofs.Prelude.{Some, encode_utf8, ◌≡◌, ◌∙◌, ◌+◌, ap, arith, length, length-append, subst, sym, len_utf8, chars, chars_rest, length-encode, IsInRoom, IsStepInRoom, begun_at, inside_of, stand_of, stop_from}
use Rattle.rdf_terms.proofs.CharsLemmas.{next_char, no_chars}
use Rattle.rdf_diagnostics.specs.declared.bad_escape.Step.TheVariants.{Leads}
use Rattle.rdf_diagnostics.proofs.EscapeWalksLemmas.{by_fails, by_leads, by_means}
use Rattle.rdf_diagnostics.proofs.bad_escape.bytes_before.Goals.{in-Leads, in-Means}
use Rattle.rdf_diagnostics.proofs.bad_escape.bytes_before.Goals as goal

pub returns-in-Fails : goal.returns-in-Fails
returns-in-Fails c =
    let l = c.loop-c in
    let i = inside_of c.args.is_iri in
    let s = stand_of l.stand in
    let w = chars (chars_rest c.next.new.self) in
    let n = next_char _ _ _ l.invariant.utf8 c.in-Some.ensures.steps.0 in
    sym (l.invariant.same ∙ (ap (stop_from i s l.begun l.now) n.chars
    ∙ (by_fails i s l.begun l.now c.in-Some.c w (sym c.moved.ensures.is ∙ c.in-Fails.is) ∙ ap Some (sym c.begun_at-begun.ensures))))

pub loop-c-preserved : goal.loop-c-preserved
loop-c-preserved c =
    let l = c.loop-c in
    let i = inside_of c.args.is_iri in
    let s = stand_of l.stand in
    let rest = chars_rest c.next.new.self in
    let w = chars rest in
    let step = c.in-Some.ensures.steps.0 in
    let n = next_char _ _ _ l.invariant.utf8 step in
    let first = l.invariant.same ∙ ap (stop_from i s l.begun l.now) n.chars in
    let len = c.len_utf8.ensures.value in
    let bytes : (l.now + c.len_utf8.result) + length rest ≡ c.args.first + length c.args.text.now =
    omega (arith, l.invariant.bytes, ap length step, length-append (encode_utf8 c.in-Some.c) rest, length-encode c.in-Some.c, len) in
    let stand = c.match-moved.stand in
    let now = l.now + c.len_utf8.result in
    let told : stop_from i (stand_of stand) (begun_at s l.begun l.now) (l.now + len_utf8 c.in-Some.c) w ≡ stop_from i
    (stand_of stand) c.begun_at-begun.result now w =
    ap (λ b. stop_from i (stand_of stand) b (l.now + len_utf8 c.in-Some.c) w) (sym c.begun_at-begun.ensures)
    ∙ ap (λ k. stop_from i (stand_of stand) c.begun_at-begun.result (l.now + k) w) (sym len) in
    elim c.match-moved.branch [
      | in-Leads b ↦ record {
        utf8 = n.utf8;
        same = first ∙ (by_leads i s l.begun l.now c.in-Some.c w stand (sym c.moved.ensures.is ∙ (b.in-Leads.is ∙ ap Leads (sym b.stand-is))) ∙ told);
        bytes = bytes;
        room = subst IsStepInRoom (b.in-Leads.is ∙ ap Leads (sym b.stand-is)) c.moved.ensures.room;
      }
      | in-Means b ↦ record {
        utf8 = n.utf8;
        same = first ∙ (by_means i s l.begun l.now c.in-Some.c w (sym c.moved.ensures.is ∙ b.in-Means.is)
            ∙ (ap (λ t. stop_from i (stand_of t) (begun_at s l.begun l.now) (l.now + len_utf8 c.in-Some.c) w) (sym b.stand-is) ∙ told));
        bytes = bytes;
        room = subst IsInRoom (sym b.stand-is) tt;
      }
    ]

pub returns : goal.returns
returns c =
    let l = c.loop-c in
    sym (l.invariant.same ∙ ap (stop_from (inside_of c.args.is_iri) (stand_of l.stand) l.begun l.now) (no_chars _ c.in-None.ensures.steps.0.0))
