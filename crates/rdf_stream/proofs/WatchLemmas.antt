-- Columns and lines after bytes that come in parts.
use Rattle.rdf_stream.proofs.Prelude.{◌≡◌, ◌≤◌, ◌<◌, ◌+◌, ◌-◌, ◌∙◌, ℕ, zero, suc, Bool, true, false, cond, List, [], ◌∷◌, ◌++◌, length, take, drop, refl, sym, ap, subst, arith, length-append, length-drop, append_assoc, slice_index, Option, Some, None, IfSome, Result, Err, Consumes, IsAtEnd, Consumes-trans, false≢true, append-nil, take_all, copy_within, StreamFault, HasGiven, Dialect, Summary, tokens_of, HandsOut, IsNear, IsOpenBracket, NearRead, TellsNear, column_after, is_feed, goes_on, last_of, line_after, next_column, reach}
use Rattle.std.proofs.lemmas.List.Edits.{take-paste}
use Rattle.rdf_stream.specs.declared.fault.StreamFault.TheVariants.{Refused, Read, Write, Memory}
use Rattle.rdf_stream.specs.declared.watch.Watching.{Watching}
use Rattle.rdf_stream.specs.declared.watch.Words.{Words}
use Rattle.rdf_stream.specs.Devices.{Reading}
use Rattle.rdf_stream.specs.declared.brackets.Opened.{Opened}
use Rattle.rdf_stream.specs.declared.brackets.TokenPlace.{TokenPlace}
use Rattle.rdf_stream.specs.Brackets.{IsOpenBefore}
use Rattle.rdf_stream.specs.Kept.{Kept, Watches}
use Rattle.rdf_stream.specs.Watches.{Follows, IsNearFault, IsToldOf, WatchesAll}
use Rattle.rdf_stream.specs.declared.watch.Nearby.{Nearby}
use Rattle.rdf_stream.specs.declared.watch.Nearby.TheVariants.{Unasked, Asked, Told}

pub column_append : (n : ℕ) (u v : List ℕ) → column_after n (u ++ v) ≡ column_after (column_after n u) v
column_append n [] v = refl
column_append n (b ∷ u) v = column_append (next_column n b) u v

pub line_append : (l u v : List ℕ) → line_after l (u ++ v) ≡ line_after (line_after l u) v
line_append l [] v = refl
line_append l (b ∷ u) v = line_append (cond (is_feed b) [] (l ++ b ∷ [])) u v

-- what stands in front of a line feed does not count
pub column_feed : (n : ℕ) (w : List ℕ) (k : ℕ) → k < length w → is_feed (slice_index w k) ≡ true → column_after n w ≡ column_after 1 (drop (k + 1) w)
column_feed n [] k l e = absurd (let z : k < 0 = l in omega arith)
column_feed n (b ∷ w) zero l e = ap (λ t. column_after (cond t 1 (cond (goes_on b) n (n + 1))) w) e
column_feed n (b ∷ w) (suc k) l e =
    let past : suc (k + 1) ≡ suc k + 1 = omega arith in
    column_feed (next_column n b) w k (let z : suc k < suc (length w) = l in omega (arith, z)) e ∙ ap (λ m. column_after 1 (drop m (b ∷ w))) past

pub line_feed : (l w : List ℕ) (k : ℕ) → k < length w → is_feed (slice_index w k) ≡ true → line_after l w ≡ line_after [] (drop (k + 1) w)
line_feed l [] k s e = absurd (let z : k < 0 = s in omega arith)
line_feed l (b ∷ w) zero s e = ap (λ t. line_after (cond t [] (l ++ b ∷ [])) w) e
line_feed l (b ∷ w) (suc k) s e =
    let past : suc (k + 1) ≡ suc k + 1 = omega arith in
    line_feed (cond (is_feed b) [] (l ++ b ∷ [])) w k (let z : suc k < suc (length w) = s in omega (arith, z)) e ∙ ap (λ m. line_after [] (drop m (b ∷ w))) past

-- without a line feed the line goes on
pub line_plain : (l w : List ℕ) → ((k : ℕ) → k < length w → is_feed (slice_index w k) ≡ false) → line_after l w ≡ l ++ w
line_plain l [] h = sym (append-nil l)
line_plain l (b ∷ w) h =
    let n : is_feed b ≡ false = h 0 (let z : 0 < suc (length w) = omega arith in z) in
    ap (λ t. line_after (cond t [] (l ++ b ∷ [])) w) n
    ∙ (line_plain (l ++ b ∷ []) w (λ k s. h (suc k) (let z : suc k < suc (length w) = omega (arith, s) in z)) ∙ append_assoc l (b ∷ []) w)

-- a column is no greater than the bytes allow
pub column_few : (n : ℕ) (w : List ℕ) → column_after n w ≤ n + length w
column_few n [] = omega arith
column_few n (b ∷ w) =
    let s = step (is_feed b) (goes_on b) in
    let r = column_few (next_column n b) w in
    let e : length (b ∷ w) ≡ suc (length w) = refl in
    omega (arith, s, r, e)
  where
    step : (x y : Bool) → cond x 1 (cond y n (n + 1)) ≤ n + 1
    step true y = omega arith
    step false true = omega arith
    step false false = omega arith

-- what holds of the bytes from a place on holds of them as a list of their own
pub rest_plain : (w : List ℕ) (n : ℕ) → ((k : ℕ) → n ≤ k → k < length w → is_feed (slice_index w k) ≡ false) → (k : ℕ) →
    k < length (drop n w) → is_feed (slice_index (drop n w) k) ≡ false
rest_plain w zero h k s = h k (omega arith) s
rest_plain [] (suc n) h k s = absurd (let z : k < 0 = s in omega arith)
rest_plain (b ∷ w) (suc n) h k s =
    rest_plain w n (λ j a t. h (suc j) (let z : suc n ≤ suc j = omega (arith, a) in z) (let z : suc j < suc (length w) = omega (arith, t) in z)) k s

-- the line after bytes that end in these, of which the last line feed is known
pub line_of_last : (gone front : List ℕ) (at : ℕ) → at < length front → is_feed (slice_index front at) ≡ true →
    ((k : ℕ) → at + 1 ≤ k → k < length front → is_feed (slice_index front k) ≡ false) → line_after [] (gone ++ front) ≡ drop (at + 1) front
line_of_last gone front at s e h =
    line_append [] gone front ∙ (line_feed (line_after [] gone) front at s e ∙ line_plain [] (drop (at + 1) front) (rest_plain front (at + 1) h))

-- and where they have none
pub line_of_all : (gone front : List ℕ) → ((k : ℕ) → k < length front → is_feed (slice_index front k) ≡ false) →
    line_after [] (gone ++ front) ≡ line_after [] gone ++ front
line_of_all gone front h = line_append [] gone front ∙ line_plain (line_after [] gone) front h

-- the first bytes of two lists, that are more than the first has, and the bytes behind them
pub take_past : (u v : List ℕ) (n : ℕ) → take (length u + n) (u ++ v) ≡ u ++ take n v
take_past [] v n = ap (λ k. take k v) (let e : 0 + n ≡ n = omega arith in e)
take_past (c ∷ u) v n = let e : length (c ∷ u) + n ≡ suc (length u + n) = omega arith in ap (λ k. take k (c ∷ u ++ v)) e ∙ ap (λ w. c ∷ w) (take_past u v n)

pub drop_past : (u v : List ℕ) (n : ℕ) → drop (length u + n) (u ++ v) ≡ drop n v
drop_past [] v n = ap (λ k. drop k v) (let e : 0 + n ≡ n = omega arith in e)
drop_past (c ∷ u) v n = let e : length (c ∷ u) + n ≡ suc (length u + n) = omega arith in ap (λ k. drop k (c ∷ u ++ v)) e ∙ drop_past u v n

-- the bytes before one that is kept, those from it on, and its column
module _ (kept : Kept) (bytes : List ℕ) (w : Watches kept bytes) (offset at : ℕ) (e : offset ≡ kept.offset + at) where
  past : offset ≡ length w.gone + at
  past = e ∙ ap (λ n. n + at) w.offset

  pub front_kept : take offset bytes ≡ w.gone ++ take at kept.bytes
  front_kept = ap (take offset) w.whole ∙ (ap (λ n. take n (w.gone ++ kept.bytes)) past ∙ take_past w.gone kept.bytes at)

  pub rest_kept : drop offset bytes ≡ drop at kept.bytes
  rest_kept = ap (drop offset) w.whole ∙ (ap (λ n. drop n (w.gone ++ kept.bytes)) past ∙ drop_past w.gone kept.bytes at)

  pub column_kept : column_after kept.column (take at kept.bytes) ≡ column_after 1 (take offset bytes)
  column_kept = ap (λ n. column_after n (take at kept.bytes)) w.column
      ∙ (sym (column_append 1 w.gone (take at kept.bytes)) ∙ ap (column_after 1) (sym front_kept))

-- the last bytes are those of the part that has enough
pub last_part : (u w : List ℕ) → reach ≤ length w → last_of reach (u ++ w) ≡ last_of reach w
last_part u w s = let e : length (u ++ w) - reach ≡ length u + (length w - reach) = omega (arith, length-append u w, s) in
    ap (λ m. drop m (u ++ w)) e ∙ drop_past u w (length w - reach)

-- the bytes behind the first are moved to the front
pub moved_front : (w : List ℕ) (n : ℕ) → n ≤ length w → take (length w - n) (copy_within w n (length w) 0) ≡ drop n w
moved_front w n l =
    let size = length-drop n w in
    let all : 0 + (length w - n) ≡ length w - n = omega arith in
    ap (λ m. take m (copy_within w n (length w) 0)) (sym all)
    ∙ (take-paste w 0 (drop n w) (length w - n) (omega arith) (omega (arith, size)) ∙ take_all (length w - n) (drop n w) (omega (arith, size)))

-- what is told of a bracket holds of the innermost that is open
pub told_open : (d : Dialect) (limit : ℕ) (bytes : List ℕ) (is_end : Bool) (offset : ℕ) (bracket : Option TokenPlace) (told : Option Opened) →
    IfSome bracket (IsOpenBefore (tokens_of d limit bytes is_end) offset) → IsToldOf bytes bracket told →
    IfSome told (IsOpenBracket d limit bytes is_end offset)
told_open d limit bytes is_end offset None told h t = subst (λ o. IfSome o (IsOpenBracket d limit bytes is_end offset)) (sym t) tt
told_open d limit bytes is_end offset (Some place) None h t = tt
told_open d limit bytes is_end offset (Some place) (Some told) h t = record { place = place; before = h; tells = t }

-- what is handed out holds of what was asked for
pub hands_out : (old mid new : Nearby NearRead) (told : Option NearRead) (tells : NearRead → Type 0) →
    HandsOut old (λ n. ⊥) mid → HandsOut mid (λ n. told ≡ Some n) new → IfSome told tells → HandsOut old tells new
hands_out Unasked mid new told tells a b h = subst (λ m. HandsOut m (λ n. told ≡ Some n) new) a b
hands_out Asked Unasked new told tells a b h = absurd a
hands_out Asked (Told n) new told tells a b h = absurd a
hands_out Asked Asked Unasked told tells a b h = absurd b
hands_out Asked Asked Asked told tells a b h = tt
hands_out Asked Asked (Told n) told tells a b h = subst (λ t. IfSome t tells) b h
hands_out (Told o) Unasked new told tells a b h = absurd a
hands_out (Told o) (Told n) new told tells a b h = absurd a
hands_out (Told o) Asked Unasked told tells a b h = absurd b
hands_out (Told o) Asked Asked told tells a b h = tt
hands_out (Told o) Asked (Told n) told tells a b h = subst (λ t. IfSome t tells) b h

-- so what is told of the place of a refusal, in the tokens that were looked for
pub hands_near : (old mid new : Nearby NearRead) (told : Option NearRead) (words : Words) (d : Dialect) (l : ℕ) → words.dialect ≡ d → words.limit ≡ l →
    (r : Result Summary StreamFault) (known : Option (List ℕ)) (left : Reading) → HandsOut old (λ n. ⊥) mid → HandsOut mid (λ n. told ≡ Some n) new →
    IfSome told (TellsNear words.dialect words.limit r known left) → HandsOut old (TellsNear d l r known left) new
hands_near old mid new told words d l e f r known left a b h =
    hands_out old mid new told (TellsNear d l r known left) a b
    (subst (λ m. IfSome told (TellsNear d m r known left)) f (subst (λ k. IfSome told (TellsNear k words.limit r known left)) e h))

-- what is told of the place of a fault is told by the bytes that the source gave
pub tells_given : (words : Words) (f : StreamFault) (near : NearRead) (known : Option (List ℕ)) (left : Reading)
    (given : HasGiven known left) (e : Bool) → left.has_ended ≡ e →
    IsNearFault words f given.bytes e near → TellsNear words.dialect words.limit (Err f) known left near
tells_given words (Refused f) near known left given e same h = (given, subst (λ x. IsNear words.dialect words.limit given.bytes x f.offset near) (sym same) h)
tells_given words Read near known left given e same h = absurd h
tells_given words Write near known left given e same h = absurd h
tells_given words Memory near known left given e same h = absurd h

module _ {A : Type 0} (known : Option (List ℕ)) (left left' : Reading) (watching : Watching A) (i : Follows known left watching)
    (live : left'.has_failed ≡ false) where
  -- a piece more
  pub follows_more : (piece : List ℕ) → Consumes left.remaining left'.remaining piece → (new : Watching A) →
      ((bytes : List ℕ) → WatchesAll watching bytes → WatchesAll new (bytes ++ piece)) → new.near ≡ watching.near → Follows known left' new
  follows_more piece c new kept same = record {
    bytes = i.bytes ++ piece;
    consumed = Consumes-trans known left.remaining left'.remaining i.bytes piece i.consumed c;
    kept = kept i.bytes i.kept;
    untold = same ∙ i.untold;
  }

  -- a fault in a piece
  pub tells_in_piece : (piece : List ℕ) → Consumes left.remaining left'.remaining piece → left'.has_ended ≡ false → (f : StreamFault) (near : Option NearRead) →
      ((bytes : List ℕ) → WatchesAll watching bytes → IfSome near (λ n. IsNearFault watching.words f (bytes ++ piece) false n)) →
      IfSome near (TellsNear watching.words.dialect watching.words.limit (Err f) known left')
  tells_in_piece piece c more f None h = tt
  tells_in_piece piece c more f (Some n) h =
      tells_given watching.words f n known left' (record {
        bytes = i.bytes ++ piece;
        consumed = Consumes-trans known left.remaining left'.remaining i.bytes piece i.consumed c;
        ended = λ e. absurd (false≢true (sym more ∙ e));
        live = live;
      }) false more (h i.bytes i.kept)

  -- a fault at the end
  pub tells_at_end : Consumes left.remaining left'.remaining [] → IsAtEnd left'.remaining → left'.has_ended ≡ true →
      (f : StreamFault) (near : Option NearRead) →
      ((bytes : List ℕ) → WatchesAll watching bytes → IfSome near (λ n. IsNearFault watching.words f (bytes ++ []) true n)) →
      IfSome near (TellsNear watching.words.dialect watching.words.limit (Err f) known left')
  tells_at_end c at_end ended f None h = tt
  tells_at_end c at_end ended f (Some n) h =
      tells_given watching.words f n known left' (record {
        bytes = i.bytes ++ [];
        consumed = Consumes-trans known left.remaining left'.remaining i.bytes [] i.consumed c;
        ended = λ e. at_end;
        live = live;
      }) true ended (h i.bytes i.kept)
