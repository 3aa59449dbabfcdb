use Rattle.rdf_tokens.proofs.Prelude.{refl, length, sym, subst, ap, arith, encode_utf8_all, IsCharBoundary, chars, chars-nil, Held, BeginsChar}
use Rattle.rdf_tokens.proofs.ReadLemmas.{begins_nil, read_new}
use Rattle.rdf_tokens.proofs.scanner.Scanner.new.Goals as goal

pub invariant_of-result : goal.invariant_of-result
invariant_of-result g c =
    let held : Held _ _ _ _ _ = record {
      boundary = subst (λ x. IsCharBoundary x 0) (sym c.new.ensures.bytes) (omega arith, λ l. absurd (omega arith));
      begins = subst BeginsChar (sym c.new-2.ensures.items) begins_nil;
      within = omega (arith, ap length c.new.ensures.bytes);
      most = omega arith;
      lines = omega arith;
      last = omega arith;
    } in
    record { held = held; walked = tt; no_names = tt; bounded = omega (arith, ap length c.new.ensures.bytes, ap length c.new-2.ensures.items) }

pub returns-clause-read : goal.returns-clause-read
returns-clause-read g c = read_new c.args.dialect c.args.limit _ _ c.new.ensures.bytes c.new-2.ensures.items

pub returns-clause-running : goal.returns-clause-running
returns-clause-running g c =
    record {
      running = refl;
      more = refl;
      few = omega (
        arith,
        ap (λ b. length (encode_utf8_all (chars b))) c.new.ensures.bytes,
        ap (λ w. length (encode_utf8_all w)) chars-nil,
        ap length c.new-2.ensures.items,
      );
    }
