-- Bytes that a reader passes are read.
use Rattle.rdf_driver.proofs.Prelude.{◌≡◌, ◌&&◌, ℕ, ◌+◌, ◌*◌, ◌≤◌, Bool, true, false, not, nat_le, List, ◌++◌, length, refl, sym, ap, ◌∙◌, subst, arith, length-append, le_prop, ∥∥₁_elim, ∥∥₁_prop, and_parts, leb-true, tokens_of, most_bytes, counted_undecided, given_few, Summary, Words, Lawful, Driven, HasRead, IsLive}
use Rattle.std.specs.Str.{chars}
use Rattle.rdf_tokens.specs.Scans as Scan
use Rattle.rdf_tokens.specs.Passing as Pass
use Rattle.rdf_tokens.specs.Passing.{is_idle, Spells}
use Rattle.rdf_tokens.proofs.PassingLemmas.{passed_read, idle_decides}
use Rattle.rdf_driver.specs.Passing.{can_pass, passed, LeadsBack}

-- Counts are the same where their numbers are.
summary_same : {a b c d e g : ℕ} → a ≡ b → c ≡ d → e ≡ g → (let x : Summary = record { quads = a; tokens = c; bytes = e } in x)
    ≡ record { quads = b; tokens = d; bytes = g }
summary_same p q r = cc

module _ {G X I : Type 0} (w : Words G X I) (r : Driven G) (idle : is_idle r.scanner ≡ true) (piece : List ℕ) (more : List I) (tokens : ℕ)
    (l : LeadsBack w r piece more tokens) where
  -- the reader has read the bytes that it passed
  pub passed_has_read : (x : X) (bytes : List ℕ) (quads : List I) → HasRead w r x bytes quads →
      HasRead w (passed r piece (length more) tokens) x (bytes ++ piece) (quads ++ more)
  passed_has_read x bytes quads h =
      let v = r.scanner in
      let now = bytes ++ piece in
      let us = (tokens_of w.dialect v.limit bytes false).tokens in
      let spells : Spells v.dialect v.limit v.place (chars piece) l.spelled =
      subst (λ d. Spells d v.limit v.place (chars piece) l.spelled) (sym h.dialect) l.spells in
      let scan = passed_read v bytes piece us l.spelled h.scanned idle l.utf8 spells in
      let d = idle_decides (Pass.passed v piece) now (us ++ l.spelled) idle scan in
      let all : (tokens_of w.dialect v.limit now false).tokens ≡ us ++ l.spelled = ap (λ y. (tokens_of y v.limit now false).tokens) (sym h.dialect) ∙ d.0 in
      let quads_read : r.so_far.quads ≡ length quads = ap (λ s. s.quads) h.so_far in
      let tokens_read : r.so_far.tokens ≡ length us = ap (λ s. s.tokens) h.so_far in
      let bytes_read : r.so_far.bytes ≡ length bytes = ap (λ s. s.bytes) h.so_far in
      let count = l.count in
      let same_tokens : r.so_far.tokens + tokens ≡ length (tokens_of w.dialect v.limit now false).tokens =
      omega (arith, ap length all, length-append us l.spelled) in
      record {
        running = h.running;
        dialect = h.dialect;
        more = record { running = h.more.running; more = h.more.more; few = h.more.few };
        scanned = subst (Scan.HasScanned (Pass.passed v piece) now) (sym all) scan;
        undecided = ap (λ y. (tokens_of y v.limit now false).outcome) (sym h.dialect) ∙ d.1;
        reached = subst (λ ts. w.reached r.grammar x ts (quads ++ more)) (sym all) (l.reached x us quads h.reached);
        so_far = summary_same (omega (arith, length-append quads more)) same_tokens (omega (arith, length-append bytes piece));
      }

  -- and may read more
  pub passed_live : r.scanner.taken.offset + length piece ≤ most_bytes → IsLive w r → IsLive w (passed r piece (length more) tokens)
  passed_live room i = record {
    dialect = i.dialect;
    limit = i.limit;
    more = record { running = i.more.running; more = i.more.more; few = i.more.few };
    most = room;
    read = ∥∥₁_elim i.read ∥∥₁_prop (λ y. ∣ (y.0, y.1 ++ piece, y.2 ++ more, passed_has_read y.0 y.1 y.2 y.3) ∣₁);
  }

-- the counts of a reader have room
module _ {G X I : Type 0} (w : Words G X I) (law : Lawful w) (r : Driven G) (i : IsLive w r) where
  -- items are at most two for each token, and tokens at most one for each byte
  few_quads : (x : X) (bytes : List ℕ) (quads : List I) → HasRead w r x bytes quads → r.so_far.quads ≤ 2 * most_bytes
  few_quads x bytes quads h =
      let ts = (tokens_of w.dialect r.scanner.limit bytes false).tokens in
      let few = law.few r.grammar x ts quads h.reached in
      let given = given_few r.scanner bytes ts h.scanned in
      let count : r.so_far.quads ≡ length quads = ap (λ s. s.quads) h.so_far in
      let size : r.scanner.taken.offset ≡ length bytes = ap (λ p. p.offset) h.scanned.taken in
      let most = i.most in
      omega (arith, few, given, count, size, most)

  -- the count of tokens is that of a list that the bytes bound
  few_tokens : (x : X) (bytes : List ℕ) (quads : List I) → HasRead w r x bytes quads → r.so_far.tokens ≤ most_bytes
  few_tokens x bytes quads h =
      let ts = (tokens_of w.dialect r.scanner.limit bytes false).tokens in
      let given = given_few r.scanner bytes ts h.scanned in
      let counted = counted_undecided w.dialect r.scanner.limit bytes false h.undecided in
      let count : r.so_far.tokens ≡ length ts = ap (λ s. s.tokens) h.so_far in
      let size : r.scanner.taken.offset ≡ length bytes = ap (λ p. p.offset) h.scanned.taken in
      let most = i.most in
      omega (arith, given, counted, count, size, most)

  -- the count of bytes is the scanner's place, which is bounded
  few_bytes : (x : X) (bytes : List ℕ) (quads : List I) → HasRead w r x bytes quads → r.so_far.bytes ≤ most_bytes
  few_bytes x bytes quads h =
      let count : r.so_far.bytes ≡ length bytes = ap (λ s. s.bytes) h.so_far in
      let size : r.scanner.taken.offset ≡ length bytes = ap (λ p. p.offset) h.scanned.taken in
      let most = i.most in
      omega (arith, count, size, most)

  -- The same without naming what was read: the sum of this count and what is passed cannot pass 64 bits.
  pub quads_room : r.so_far.quads ≤ 2 * most_bytes
  quads_room = ∥∥₁_elim i.read le_prop (λ y. few_quads y.0 y.1 y.2 y.3)

  -- so for the count of tokens
  pub tokens_room : r.so_far.tokens ≤ most_bytes
  tokens_room = ∥∥₁_elim i.read le_prop (λ y. few_tokens y.0 y.1 y.2 y.3)

  -- and for that of bytes
  pub bytes_room : r.so_far.bytes ≤ most_bytes
  bytes_room = ∥∥₁_elim i.read le_prop (λ y. few_bytes y.0 y.1 y.2 y.3)

-- what `can_pass` says
pub can_pass-parts : {G : Type 0} (r : Driven G) (len : ℕ) → can_pass r len ≡ true →
    (r.done ≡ false) × (is_idle r.scanner ≡ true) × (r.scanner.taken.offset + len ≤ most_bytes)
can_pass-parts r len e =
    let a = and_parts (not r.done) (is_idle r.scanner && nat_le (r.scanner.taken.offset + len) most_bytes) e in
    let b = and_parts (is_idle r.scanner) (nat_le (r.scanner.taken.offset + len) most_bytes) a.1 in
    (is_not r.done a.0, b.0, leb-true (r.scanner.taken.offset + len) most_bytes b.1)
  where
    is_not : (b : Bool) → not b ≡ true → b ≡ false
    is_not true e = absurd (let h : false ≡ true = e in cc)
    is_not false e = refl

-- the reader may read more after so many quads and tokens
module _ {G X I : Type 0} (w : Words G X I) (r : Driven G) (piece : List ℕ) (quads tokens : ℕ) (can : can_pass r (length piece) ≡ true) where
  -- what was read of it stays true, so `feed` may be called next
  pub pass_live : IsLive w r → (more : List I) × (quads ≡ length more) × LeadsBack w r piece more tokens → IsLive w (passed r piece quads tokens)
  pass_live i l =
      let p = can_pass-parts r (length piece) can in
      subst (λ n. IsLive w (passed r piece n tokens)) (sym l.1) (passed_live w r p.1 piece l.0 tokens l.2 p.2 i)

  -- what was read is what stood before and what was passed
  pub pass_reads : (more : List I) → quads ≡ length more → LeadsBack w r piece more tokens → (x : X) (before : List ℕ) (given : List I) →
      HasRead w r x before given →
      HasRead w (passed r piece quads tokens) x (before ++ piece) (given ++ more)
  pass_reads more n l x before given h =
      let p = can_pass-parts r (length piece) can in
      subst (λ n. HasRead w (passed r piece n tokens) x (before ++ piece) (given ++ more)) (sym n)
      (passed_has_read w r p.1 piece more tokens l x before given h)
