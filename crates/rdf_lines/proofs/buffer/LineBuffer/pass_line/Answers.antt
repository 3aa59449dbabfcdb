use Rattle.rdf_lines.proofs.Prelude.{◌≡◌, ◌+◌, ◌-◌, true, length, take, refl, ap, sym, ◌∙◌, rules, ◌++◌, encode_utf8_all, form_of, line_in, can_pass, can_pass-parts}
use Rattle.rdf_terms.specs.Views.{quad_of}
use Rattle.rdf_lines.proofs.EscapedLine.{line_shorter}
use Rattle.rdf_lines.proofs.EscapedPassing.{can_slice, line_leads, line_passes, passes_nothing}
use Rattle.rdf_lines.proofs.buffer.LineBuffer.pass_line.Goals as goal

pub returns-then-not-can_pass-clause-passes : goal.returns-then-not-can_pass-clause-passes
returns-then-not-can_pass-clause-passes g c = passes_nothing c.args.reader.now c.args.self.now c.args.self.now refl

pub returns-in-None-clause-passes : goal.returns-in-None-clause-passes
returns-in-None-clause-passes g c = passes_nothing c.args.reader.now c.args.self.now c.args.self.now refl

pub returns-in-Err-Other-clause-passes : goal.returns-in-Err-Other-clause-passes
returns-in-Err-Other-clause-passes g c = passes_nothing c.args.reader.now c.args.self.now _ (search rules)

pub returns-in-Err-NotLabelled-clause-passes : goal.returns-in-Err-NotLabelled-clause-passes
returns-in-Err-NotLabelled-clause-passes g c = passes_nothing c.args.reader.now c.args.self.now _ (search rules)

pub overflow_sub-passed : goal.overflow_sub-passed
overflow_sub-passed g c =
    let line = c.in-Ok.line in
    line_shorter c.args.ending c.in-Some.rules.form c.in-Some.rules.iri line.tokens (quad_of line.quad) c.args.text.now line.rest.now c.in-Ok.ensures.spelled

pub pass-requires-clause-idle : goal.pass-requires-clause-idle
pass-requires-clause-idle g c =
    can_slice c.args.reader.now c.args.text.now c.as_bytes.result.now _ c.as_bytes.ensures.value (sym c.can_pass.ensures ∙ c.if-not-can_pass.false)

pub pass-requires-clause-leads : goal.pass-requires-clause-leads
pass-requires-clause-leads g c =
    let r = c.args.reader.now in
    let text = c.args.text.now in
    let line = c.in-Ok.line in
    let rest = line.rest.now in
    let can : can_pass r (length text) ≡ true = sym c.can_pass.ensures ∙ c.if-not-can_pass.false in
    let e = c.in-Some.ensures in
    line_leads c.args.ending r c.grammar.result.now c.grammar.ensures.grammar
    (c.grammar.ensures.limit (can_pass-parts r (length text) can).0) c.in-Some.rules e.rules e.begins e.token
    line.tokens (quad_of line.quad) text rest e.short c.in-Ok.ensures.spelled
    (take (length text - length rest) c.as_bytes.result.now) (line.tokens + c.end_tokens.result)
    (ap (take (length text - length rest)) c.as_bytes.ensures.value) (ap (λ k. line.tokens + k) c.end_tokens.ensures)

pub returns-clause-passes : goal.returns-clause-passes
returns-clause-passes g c =
    let r = c.args.reader.now in
    let text = c.args.text.now in
    let line = c.in-Ok.line in
    let rest = line.rest.now in
    let can : can_pass r (length text) ≡ true = sym c.can_pass.ensures ∙ c.if-not-can_pass.false in
    let e = c.in-Some.ensures in
    let form = c.new-form.result in
    let view : take c.self.inside.len c.self.inside.bytes.items ≡ c.args.self.now = search rules in
    let w = c.in-Ok-put_quad.ensures.written.bytes in
    line_passes c.args.ending r c.grammar.result.now c.grammar.ensures.grammar
    (c.grammar.ensures.limit (can_pass-parts r (length text) can).0) c.in-Some.rules e.rules e.begins e.token
    line.tokens (quad_of line.quad) text rest e.short c.in-Ok.ensures.spelled
    (take (length text - length rest) c.as_bytes.result.now) (line.tokens + c.end_tokens.result)
    (ap (take (length text - length rest)) c.as_bytes.ensures.value) (ap (λ k. line.tokens + k) c.end_tokens.ensures)
    c.pass.new.self c.pass.ensures.passed c.pass.ensures.read c.args.self.now _
    (w ∙ (ap (λ x. x ++ encode_utf8_all (line_in (form_of form) (quad_of line.quad))) view
    ∙ ap (λ f. c.args.self.now ++ encode_utf8_all (line_in f (quad_of line.quad))) c.new-form.ensures))
