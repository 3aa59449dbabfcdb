-- What comes before a place was taken off; the comment and the white space there are taken off with it.
use Rattle.rdf_tokens.proofs.Prelude.{◌∙◌, sym, arith}
use Rattle.rdf_tokens.proofs.BlankRuns.{part_on, cut_on, ends_there, hash_opens}
use Rattle.rdf_tokens.proofs.blank.blank_bytes.Goals as goal

pub returns-then-is_cut-clause-len : goal.returns-then-is_cut-clause-len
returns-then-is_cut-clause-len c =
    let r = c.comment_end-end in
    let from = r.ensures.from in
    let all = cut_on c.args.dialect c.parts.comment c.args.bytes.now c.parts.at r.result r.ensures (sym c.is_cut.ensures ∙ c.if-is_cut.true) in
    let len = all.0 in
    let read = c.parts.invariant.len in
    omega (arith, len, read)

pub returns-then-is_cut-clause-comment : goal.returns-then-is_cut-clause-comment
returns-then-is_cut-clause-comment c =
    let r = c.comment_end-end in
    sym (c.parts.invariant.comment ∙ (cut_on c.args.dialect c.parts.comment c.args.bytes.now c.parts.at r.result r.ensures
    (sym c.is_cut.ensures ∙ c.if-is_cut.true)).1)

pub returns-then-not-is_hash-clause-len : goal.returns-then-not-is_hash-clause-len
returns-then-not-is_hash-clause-len c =
    let r = c.comment_end-end in
    let w = c.white_end-at in
    let from = r.ensures.from in
    let more = w.ensures.from in
    let bs = c.args.bytes.now in
    let part = part_on c.args.dialect c.parts.comment bs c.parts.at r.result w.result r.ensures (sym c.is_cut.ensures ∙ c.if-is_cut.false) w.ensures in
    let len = part.len in
    let none = (ends_there c.args.dialect bs r.result w.result w.ensures (sym c.is_hash.ensures ∙ c.if-not-is_hash.true)).0 in
    let read = c.parts.invariant.len in
    omega (arith, len, none, read)

pub returns-then-not-is_hash-clause-comment : goal.returns-then-not-is_hash-clause-comment
returns-then-not-is_hash-clause-comment c =
    let r = c.comment_end-end in
    let w = c.white_end-at in
    let bs = c.args.bytes.now in
    let part = part_on c.args.dialect c.parts.comment bs c.parts.at r.result w.result r.ensures (sym c.is_cut.ensures ∙ c.if-is_cut.false) w.ensures in
    sym (c.parts.invariant.comment
    ∙ (part.comment ∙ (ends_there c.args.dialect bs r.result w.result w.ensures (sym c.is_hash.ensures ∙ c.if-not-is_hash.true)).1))

pub parts-preserved : goal.parts-preserved
parts-preserved c =
    let r = c.comment_end-end in
    let w = c.white_end-at in
    let bs = c.args.bytes.now in
    let from = r.ensures.from in
    let more = w.ensures.from in
    let part = part_on c.args.dialect c.parts.comment bs c.parts.at r.result w.result r.ensures (sym c.is_cut.ensures ∙ c.if-is_cut.false) w.ensures in
    let opens = hash_opens c.args.dialect bs w.result (sym c.is_hash.ensures ∙ c.if-not-is_hash.false) in
    let read = c.parts.invariant.len in
    let len = part.len in
    let opened = opens.len in
    record { within = w.ensures.within; len = omega (arith, read, len, opened); comment = c.parts.invariant.comment ∙ (part.comment ∙ opens.comment) }
