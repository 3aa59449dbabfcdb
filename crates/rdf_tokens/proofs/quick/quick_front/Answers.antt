-- The first byte tells the token, or a name is sought.
use Rattle.rdf_tokens.proofs.Prelude.{◌≡◌, ◌<◌, ◌∙◌, true, sym, ap, subst, length, get_or, IsUtf8, BeginsNumber, IsQuick, single, is_colon}
use Rattle.rdf_terms.specs.declared.kind.Kind.TheVariants.{Dot}
use Rattle.rdf_terms.specs.Classes.{is_letter}
use Rattle.rdf_tokens.specs.Quick.{IsToken}
use Rattle.rdf_tokens.proofs.QuickLemmas.{named, numbered, quick_dot, quick_kind, signed, some-bytes, sought}
use Rattle.rdf_tokens.proofs.quick.quick_front.Goals as goal

pub returns-then-is_some : goal.returns-then-is_some
returns-then-is_some g c =
    let d = c.args.dialect in
    let v = c.as_bytes-bytes.ensures.value in
    let some = subst (λ b. 0 < length b) v (some-bytes (length c.as_bytes-bytes.result.now) (sym c.is_empty.ensures ∙ c.if-is_empty.false)) in
    quick_kind d c.args.text.now c.single-kind.result c.utf8.text some (c.single-kind.ensures ∙ ap (λ b. single d (get_or b 0 0)) v)

pub quick_name-requires-clause-some : goal.quick_name-requires-clause-some
quick_name-requires-clause-some g c =
    subst (λ b. 0 < length b) c.as_bytes-bytes.ensures.value (some-bytes (length c.as_bytes-bytes.result.now) (sym c.is_empty.ensures ∙ c.if-is_empty.false))

pub quick_name-requires-clause-letter : goal.quick_name-requires-clause-letter
quick_name-requires-clause-letter g c =
    subst (λ b. is_letter (get_or b 0 0) ≡ true) c.as_bytes-bytes.ensures.value
    (sought c.args.dialect c.as_bytes-bytes.result.now c.args.no_names.now (sym c.is_sought.ensures ∙ c.if-is_sought.true)).1

pub returns-then-is_sought : goal.returns-then-is_sought
returns-then-is_sought g c =
    let q = c.quick_name.result in
    subst (λ d. IsQuick d c.args.text.now q.len q.kind)
    (sym (sought c.args.dialect c.as_bytes-bytes.result.now c.args.no_names.now (sym c.is_sought.ensures ∙ c.if-is_sought.true)).0) c.quick_name.ensures

pub quick_named-requires : goal.quick_named-requires
quick_named-requires g c =
    subst (λ b. is_colon b 0 ≡ true) c.as_bytes-bytes.ensures.value
    (named c.args.dialect c.as_bytes-bytes.result.now (sym c.is_named.ensures ∙ c.if-is_named.true)).1

pub returns-then-is_named : goal.returns-then-is_named
returns-then-is_named g c =
    let q = c.quick_named.result in
    subst (λ d. IsQuick d c.args.text.now q.len q.kind)
    (sym (named c.args.dialect c.as_bytes-bytes.result.now (sym c.is_named.ensures ∙ c.if-is_named.true)).0) c.quick_named.ensures

pub returns-then-is_dot : goal.returns-then-is_dot
returns-then-is_dot g c =
    let bs = c.as_bytes-bytes.result.now in
    let v = c.as_bytes-bytes.ensures.value in
    subst (λ b. IsToken c.args.dialect b 1 Dot) v (quick_dot c.args.dialect bs (subst IsUtf8 (sym v) c.utf8.text) (sym c.is_dot.ensures ∙ c.if-is_dot.true))

pub quick_number-requires : goal.quick_number-requires
quick_number-requires g c =
    subst (λ b. BeginsNumber b 0) c.as_bytes-bytes.ensures.value
    (numbered c.args.dialect c.as_bytes-bytes.result.now (sym c.begins_number.ensures ∙ c.if-begins_number.true)).1

pub returns-then-begins_number : goal.returns-then-begins_number
returns-then-begins_number g c =
    let q = c.quick_number.result in
    subst (λ d. IsQuick d c.args.text.now q.len q.kind)
    (sym (numbered c.args.dialect c.as_bytes-bytes.result.now (sym c.begins_number.ensures ∙ c.if-begins_number.true)).0)
    c.quick_number.ensures

pub quick_number-requires-then-begins_signed : goal.quick_number-requires-then-begins_signed
quick_number-requires-then-begins_signed g c =
    subst (λ b. BeginsNumber b 1) c.as_bytes-bytes.ensures.value
    (signed c.args.dialect c.as_bytes-bytes.result.now (sym c.begins_signed.ensures ∙ c.if-begins_signed.true)).1

pub returns-then-begins_signed : goal.returns-then-begins_signed
returns-then-begins_signed g c =
    let q = c.quick_number-then-begins_signed.result in
    subst (λ d. IsQuick d c.args.text.now q.len q.kind)
    (sym (signed c.args.dialect c.as_bytes-bytes.result.now (sym c.begins_signed.ensures ∙ c.if-begins_signed.true)).0)
    c.quick_number-then-begins_signed.ensures

pub returns : goal.returns
returns g c = c.quick_plain.ensures c.args.dialect
