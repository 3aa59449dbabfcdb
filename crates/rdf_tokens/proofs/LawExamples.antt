-- The laws at the text `1 .`, an integer and a dot.
use Rattle.rdf_tokens.proofs.Prelude.{Err, ◌≡◌, true, false, List, [], ◌∷◌, ◌++◌, ◌≤◌, length, refl, sym, ap, ◌∙◌, subst, All, All-head, All-tail, encode, chars, is_utf8, utf8_valid_len, utf8_error_len, Turtle, Integer, End, Ended, has, shape, kind_of, is_live, is_fit, Token, read, tokens, undecided, complete, no_token, bad_utf8, end_of, tokens_of, Unread, HasScanned, IsBeginning, IsNext, StandsIn, text_at, IsLongest, HasNoFront, IsLongestIn, EndsFor}
use Rattle.rdf_terms.specs.declared.kind.Kind.TheVariants.{Dot}
use Rattle.rdf_tokens.specs.Tokens.{step}
use Rattle.rdf_tokens.specs.Scans.{IsToken}
use Rattle.rdf_tokens.proofs.ReadLemmas.{unread}
use Rattle.rdf_tokens.proofs.LawLemmas.{lengthens, given_beginning, next_given, places, have_shapes, end_last}
use Rattle.rdf_tokens.proofs.LimitLemmas.{no_longer}
use Rattle.rdf_tokens.proofs.OutcomeLemmas.{longest_found, reasons, longest_tokens}

-- the integer at the first byte
one : Token
one = record { kind = Integer; text = 49 ∷ []; at = record { offset = 0; line = 1 } }

-- the dot after it
dot : Token
dot = record { kind = Dot; text = 46 ∷ []; at = record { offset = 2; line = 1 } }

-- the end of the input
end : Token
end = record { kind = End; text = []; at = record { offset = 3; line = 1 } }

-- `1 ` and more to come
read_part : tokens_of Turtle 8 (49 ∷ 32 ∷ []) false ≡ record { tokens = one ∷ []; outcome = undecided; at = record { offset = 2; line = 1 } }
unfolding tokens_of tokens read step kind_of is_live shape has chars utf8_valid_len utf8_error_len is_utf8 encode one is_fit
read_part = refl

-- `1 .` and no more
read_whole : tokens_of Turtle 8 (49 ∷ 32 ∷ 46 ∷ []) true ≡ record { tokens = one ∷ dot ∷ end ∷ []; outcome = complete; at = record { offset = 3; line = 1 } }
unfolding tokens_of tokens read step kind_of is_live shape has chars utf8_valid_len utf8_error_len is_utf8 encode one dot end is_fit
read_whole = refl

-- the dot only lengthens the list
part_first : IsBeginning (one ∷ []) (one ∷ dot ∷ end ∷ [])
part_first =
    subst (λ r. IsBeginning r.tokens (one ∷ dot ∷ end ∷ [])) read_part
    (subst (λ r. IsBeginning (tokens_of Turtle 8 (49 ∷ 32 ∷ []) false).tokens r.tokens) read_whole (lengthens Turtle 8 (49 ∷ 32 ∷ []) (46 ∷ []) true).0)

-- a scanner that was handed `1 .` and its end, and has given the integer
given_one : Unread
given_one = record (unread Turtle 8 [] (32 ∷ 46 ∷ []) []) {
  place = record { offset = 1; line = 1 };
  begun = true;
  taken = end_of (49 ∷ 32 ∷ 46 ∷ []);
  ended = true;
}

-- a scanner that has given the integer
has_given_one : HasScanned given_one (49 ∷ 32 ∷ 46 ∷ []) (one ∷ [])
unfolding given_one tokens_of tokens read step kind_of is_live shape has chars utf8_valid_len utf8_error_len is_utf8 encode one is_fit
has_given_one = record { taken = refl; reads = refl }

-- the integer is first
one_first : IsBeginning (one ∷ []) (one ∷ dot ∷ end ∷ [])
unfolding given_one
one_first =
    subst (λ r. IsBeginning (one ∷ []) r.tokens) read_whole (given_beginning given_one (49 ∷ 32 ∷ 46 ∷ []) (one ∷ []) has_given_one)

-- a scanner that has given the end has given all
given_end : Unread
given_end = record (unread Turtle 8 [] [] []) {
  place = record { offset = 3; line = 1 };
  begun = true;
  taken = end_of (49 ∷ 32 ∷ 46 ∷ []);
  ended = true;
  stopped = true;
}

-- a scanner that has given all three
has_given_end : HasScanned given_end (49 ∷ 32 ∷ 46 ∷ []) (one ∷ dot ∷ end ∷ [])
unfolding given_end
has_given_end = record {
  taken = refl;
  reads = (ap (λ r. r.tokens) read_whole, λ h. let e : complete ≡ undecided = sym (ap (λ r. r.outcome) read_whole) ∙ h in cc);
}

-- after the end it reports that it has ended
no_more : IsNext (tokens_of Turtle 8 (49 ∷ 32 ∷ 46 ∷ []) true) (one ∷ dot ∷ end ∷ []) (Err (record { reason = Ended; offset = 3; line = 1 }))
unfolding given_end
no_more = next_given given_end given_end (49 ∷ 32 ∷ 46 ∷ []) (one ∷ dot ∷ end ∷ [])
    (Err (record { reason = Ended; offset = 3; line = 1 })) has_given_end (refl, refl)

-- the dot stands at its place, and has its shape
dot_stands : StandsIn (49 ∷ 32 ∷ 46 ∷ []) dot
dot_stands =
    let all = subst (λ r. All (StandsIn (49 ∷ 32 ∷ 46 ∷ [])) r.tokens) read_whole (places Turtle 8 (49 ∷ 32 ∷ 46 ∷ []) true).0 in
    All-head (StandsIn (49 ∷ 32 ∷ 46 ∷ [])) dot (end ∷ []) (All-tail (StandsIn (49 ∷ 32 ∷ 46 ∷ [])) one (dot ∷ end ∷ []) all)

-- the dot is a token of Turtle
dot_is_token : IsToken Turtle dot
dot_is_token =
    let all = subst (λ r. All (IsToken Turtle) r.tokens) read_whole (have_shapes Turtle 8 (49 ∷ 32 ∷ 46 ∷ []) true) in
    All-head (IsToken Turtle) dot (end ∷ []) (All-tail (IsToken Turtle) one (dot ∷ end ∷ []) all)

-- the end is last
last_is_end : (ts : List Token) × (one ∷ dot ∷ end ∷ [] ≡ ts ++ end ∷ [])
unfolding end
last_is_end =
    let whole = (end_last Turtle 8 (49 ∷ 32 ∷ 46 ∷ []) true).whole (ap (λ r. r.outcome) read_whole) in
    (whole.0, sym (ap (λ r. r.tokens) read_whole) ∙ (whole.1 ∙ ap (λ r. whole.0 ++ (record { kind = End; text = []; at = r.at }) ∷ []) read_whole))

-- the integer keeps the limit
one_is_short : length one.text ≤ 8
one_is_short =
    All-head (λ t. length t.text ≤ 8) one (dot ∷ end ∷ [])
    (subst (λ r. All (λ t. length t.text ≤ 8) r.tokens) read_whole (no_longer Turtle 8 (49 ∷ 32 ∷ 46 ∷ []) true))

-- the longest front of `1` is the integer
one_is_longest : IsLongest Turtle (49 ∷ []) 1 Integer
unfolding kind_of shape has
one_is_longest = ((longest_found Turtle (49 ∷ [])).0 1 Integer).0 refl

-- the dot is the longest front at its place
dot_is_longest : IsLongestIn Turtle (49 ∷ 32 ∷ 46 ∷ []) dot
dot_is_longest =
    let all = subst (λ r. All (IsLongestIn Turtle (49 ∷ 32 ∷ 46 ∷ [])) r.tokens) read_whole (longest_tokens Turtle 8 (49 ∷ 32 ∷ 46 ∷ []) true) in
    All-head (IsLongestIn Turtle (49 ∷ 32 ∷ 46 ∷ [])) dot (end ∷ []) (All-tail (IsLongestIn Turtle (49 ∷ 32 ∷ 46 ∷ [])) one (dot ∷ end ∷ []) all)

-- all was read up to the input's length
read_to_the_end : (tokens_of Turtle 8 (49 ∷ 32 ∷ 46 ∷ []) true).at.offset ≡ 3
read_to_the_end =
    (subst (λ o. EndsFor Turtle 8 (49 ∷ 32 ∷ 46 ∷ []) true o (tokens_of Turtle 8 (49 ∷ 32 ∷ 46 ∷ []) true).at) (ap (λ r. r.outcome) read_whole)
    (reasons Turtle 8 (49 ∷ 32 ∷ 46 ∷ []) true)).1

-- no front of `!` is a token
read_none : tokens_of Turtle 8 (33 ∷ []) true ≡ record { tokens = []; outcome = no_token; at = record { offset = 0; line = 1 } }
unfolding tokens_of tokens read step kind_of is_live shape has chars utf8_valid_len utf8_error_len is_utf8 encode is_fit
read_none = refl

-- "!" begins no token
no_front : HasNoFront Turtle (text_at (33 ∷ []) (record { offset = 0; line = 1 }))
no_front = (subst (λ r. EndsFor Turtle 8 (33 ∷ []) true r.outcome r.at) read_none (reasons Turtle 8 (33 ∷ []) true)).1

-- the byte 255 is no UTF-8, and the first such
read_bad : tokens_of Turtle 8 (49 ∷ 32 ∷ 255 ∷ []) false ≡ record { tokens = one ∷ []; outcome = bad_utf8; at = record { offset = 2; line = 1 } }
unfolding tokens_of tokens read step kind_of is_live shape has chars utf8_valid_len utf8_error_len is_utf8 encode one is_fit
read_bad = refl

-- the place of bad UTF-8 is where the good text ends
bad_place : 2 ≡ utf8_valid_len (49 ∷ 32 ∷ 255 ∷ [])
bad_place = (subst (λ r. EndsFor Turtle 8 (49 ∷ 32 ∷ 255 ∷ []) false r.outcome r.at) read_bad (reasons Turtle 8 (49 ∷ 32 ∷ 255 ∷ []) false)).0
