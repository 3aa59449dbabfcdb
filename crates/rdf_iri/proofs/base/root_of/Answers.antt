-- What stands in front of the path, and the path's directory, are counted.
use Rattle.rdf_iri.proofs.Prelude.{◌≡◌, ◌∙◌, ap, sym, length, arith, parts_of, suffix, front_text}
use Rattle.rdf_iri.proofs.RootLemmas.{front-within, query-within, root-found}
use Rattle.rdf_iri.proofs.base.root_of.Goals as goal

pub front_len-front-requires : goal.front_len-front-requires
front_len-front-requires c =
    let e = ap (λ p. length (front_text p)) c.cut_parts-parts.ensures in
    omega (arith, e, front-within c.args.text.now)

pub overflow_add-result : goal.overflow_add-result
overflow_add-result c =
    let e = ap (λ p. length (front_text p)) c.cut_parts-parts.ensures in
    omega (arith, e, c.front_len-front.ensures, front-within c.args.text.now)

pub overflow_add-result-2 : goal.overflow_add-result-2
overflow_add-result-2 c =
    let e = ap (λ p. length (front_text p)) c.cut_parts-parts.ensures in
    let n : length c.as_bytes-path.result.now ≡ length (parts_of c.args.text.now).path =
    ap length c.as_bytes-path.ensures.value ∙ ap (λ p. length p.path) c.cut_parts-parts.ensures in
    let l = c.directory_len-len.ensures.within in
    omega (arith, e, n, l, c.front_len-front.ensures, front-within c.args.text.now)

pub overflow_add-end : goal.overflow_add-end
overflow_add-end c =
    let e = ap (λ p. length (front_text p)) c.cut_parts-parts.ensures in
    let n : length c.as_bytes-path.result.now ≡ length (parts_of c.args.text.now).path =
    ap length c.as_bytes-path.ensures.value ∙ ap (λ p. length p.path) c.cut_parts-parts.ensures in
    omega (arith, e, n, c.front_len-front.ensures, front-within c.args.text.now)

pub query_len-requires : goal.query_len-requires
query_len-requires c =
    let q = ap (λ p. length (suffix 63 p.query)) c.cut_parts-parts.ensures in
    omega (arith, q, query-within c.args.text.now)

pub overflow_add-result-3 : goal.overflow_add-result-3
overflow_add-result-3 c =
    let e = ap (λ p. length (front_text p)) c.cut_parts-parts.ensures in
    let q = ap (λ p. length (suffix 63 p.query)) c.cut_parts-parts.ensures in
    let n : length c.as_bytes-path.result.now ≡ length (parts_of c.args.text.now).path =
    ap length c.as_bytes-path.ensures.value ∙ ap (λ p. length p.path) c.cut_parts-parts.ensures in
    omega (arith, e, n, q, c.front_len-front.ensures, c.query_len.ensures, query-within c.args.text.now)

pub returns : goal.returns
returns c = root-found c.args.text.now c.as_bytes-path.result.now c.front_len-front.result c.directory_len-len.result c.query_len.result
    (sym (c.as_bytes-path.ensures.value ∙ ap (λ p. p.path) c.cut_parts-parts.ensures))
    (sym c.begins_with.ensures ∙ c.if-not-begins_with.false)
    c.directory_len-len.ensures.within
    c.directory_len-len.ensures.front
    (sym c.has_dots.ensures ∙ c.if-has_dots.false)
    (c.front_len-front.ensures ∙ ap (λ p. length (front_text p)) c.cut_parts-parts.ensures)
    (c.query_len.ensures ∙ ap (λ p. length (suffix 63 p.query)) c.cut_parts-parts.ensures)
