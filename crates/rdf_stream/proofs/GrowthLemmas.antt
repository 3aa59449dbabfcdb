-- Whatever is put, handed over or refused, the drain only grows.
use Rattle.rdf_stream.proofs.Prelude.{◌≡◌, Bool, true, false, ℕ, List, [], ◌∷◌, ◌++◌, Option, refl, sym, subst, ⊎_elim, Appends-nil, Appends-trans, Appends, Reason, Place, Fault, Driven, FeedFails, FinishFails, StreamFault, LineOut, Reports, ReportsWrite, AppendsFront, Grows, Leaves, Moves, OnlyGrows, PutHalts, SameOut, Writer}
use Rattle.rdf_terms.specs.Sinks as sink
use Rattle.rdf_terms.specs.Sinks.{Attempts}
use Rattle.rdf_terms.specs.declared.reason.Reason.TheVariants as reason
use Rattle.rdf_driver.specs.Words.{Words}
use Rattle.rdf_stream.specs.declared.fault.StreamFault.TheVariants as stream
use Rattle.rdf_stream.specs.LineOut.{Takes}
use Rattle.rdf_stream.proofs.LineOutLemmas.{same_out}

module _ {D A : Type 0} (contents : D → Option (List ℕ)) where
  -- nothing was done
  pub grows_none : (a : LineOut D A) → OnlyGrows contents a a
  grows_none a = record { same = record { form = refl; buffer = refl; drain = refl }; grows = record { more = []; added = Appends-nil (contents a.drain.now) } }

  -- one step, and then another
  pub grows_both : (a b c : LineOut D A) → OnlyGrows contents a b → OnlyGrows contents b c → OnlyGrows contents a c
  grows_both a b c p q = record {
    same = same_out a b c p.same q.same;
    grows = record {
      more = p.grows.more ++ q.grows.more;
      added = Appends-trans (contents a.drain.now) (contents b.drain.now) (contents c.drain.now) p.grows.more q.grows.more p.grows.added q.grows.added;
    };
  }

  -- bytes were taken
  pub grows_by : (a b : LineOut D A) (bytes : List ℕ) → SameOut a b → Appends (contents a.drain.now) (contents b.drain.now) bytes → OnlyGrows contents a b
  grows_by a b bytes s t = record { same = s; grows = record { more = bytes; added = t } }

  -- a beginning of some bytes was taken
  pub grows_front : (a b : LineOut D A) (bytes : List ℕ) → SameOut a b → AppendsFront (contents a.drain.now) (contents b.drain.now) bytes →
      OnlyGrows contents a b
  grows_front a b bytes s f = grows_by a b f.0 s f.3

  -- a front of some bytes was taken, and the others wait
  pub grows_moved : (a b : LineOut D A) (bytes rest : List ℕ) → SameOut a b →
      Moves (contents a.drain.now) (contents b.drain.now) bytes rest → OnlyGrows contents a b
  grows_moved a b bytes rest s m = grows_by a b m.front s m.taken

module _ {D A : Type 0} (contents : D → Option (List ℕ)) (failed : D → Bool) where
  -- some bytes were not put
  pub refusal_grows : (reported : StreamFault) (a b : LineOut D A) (bytes : List ℕ) → SameOut a b →
      PutHalts contents failed reported a bytes b → OnlyGrows contents a b
  refusal_grows stream.Write a b bytes s h = grows_moved contents a b _ h.1 s h.2
  refusal_grows stream.Memory a b bytes s h = grows_by contents a b a.buffer.now s h.1
  refusal_grows reported a b bytes s h = absurd h

  -- what waited was handed over, and a fault is reported
  pub stop_grows : (f : Fault) (reported : StreamFault) (a b : LineOut D A) → SameOut a b → Reports contents failed f reported a b → OnlyGrows contents a b
  stop_grows f reported a b s h = ⊎_elim (λ p. by (failed a.drain.now) refl p.1) (λ p. grows_by contents a b a.buffer.now s p.1.taken) h
    where
      by : (e : Bool) → failed a.drain.now ≡ e → ReportsWrite contents failed a b → OnlyGrows contents a b
      by true e t =
          record {
            same = s;
            grows = subst (Grows (contents a.drain.now)) (sym (t.before_it e))
                (record { more = []; added = Appends-nil (contents a.drain.now) });
          }
      by false e t = let (rest, m) = t.while_taking e in grows_moved contents a b _ rest s m

module _ {D A I : Type 0} (how : Writer I) (contents : D → Option (List ℕ)) (failed : D → Bool) where
  -- items were put
  pub puts_grow : (is : List I) (a b : LineOut D A) → sink.Appends (Takes how contents failed) a is b → OnlyGrows contents a b
  puts_grow [] a b h = subst (OnlyGrows contents a) (sym h) (grows_none contents a)
  puts_grow (i ∷ is) a b h = grows_both contents a h.0 b (grows_moved contents a h.0 _ _ h.1.put.same h.1.put.writes) (puts_grow is h.0 b h.2)

  -- the last of them may have been refused
  pub tries_grow : (is : List I) (a b : LineOut D A) → Attempts (Takes how contents failed) (Leaves how contents failed) a is b → OnlyGrows contents a b
  tries_grow [] a b h = subst (OnlyGrows contents a) (sym h) (grows_none contents a)
  tries_grow (i ∷ is) a b h =
      ⊎_elim (λ p. grows_moved contents a b _ _ p.1.left.same p.1.left.moves)
      (λ p. grows_both contents a p.0 b (grows_moved contents a p.0 _ _ p.1.put.same p.1.put.writes) (tries_grow is p.0 b p.2)) h

  module _ {G X : Type 0} (w : Words G X I) (at : Place) (old new : Driven G) (a b : LineOut D A) where
    -- a piece was not read to its end
    pub feed_grows : (why : Reason) (piece : List ℕ) → FeedFails w (Takes how contents failed) (Leaves how contents failed)
        (λ s. failed s.drain.now) why at old a piece new b → OnlyGrows contents a b
    feed_grows reason.Ended piece h = subst (OnlyGrows contents a) (sym h.2) (grows_none contents a)
    feed_grows reason.Memory piece h = tries_grow h.0.more a b h.0.puts
    feed_grows reason.Sink piece h = tries_grow h.0.more a b h.0.puts
    feed_grows reason.DocumentTooLong piece h = puts_grow h.more a b h.puts
    feed_grows why piece h = puts_grow h.more a b h.puts

    -- a document was not finished
    pub finish_grows : (why : Reason) → FinishFails w (Takes how contents failed) (Leaves how contents failed)
        (λ s. failed s.drain.now) why at old a new b → OnlyGrows contents a b
    finish_grows reason.Ended h = subst (OnlyGrows contents a) (sym h.2) (grows_none contents a)
    finish_grows reason.Memory h = tries_grow h.0.more a b h.0.puts
    finish_grows reason.Sink h = tries_grow h.0.more a b h.0.puts
    finish_grows why h = puts_grow h.more a b h.puts
