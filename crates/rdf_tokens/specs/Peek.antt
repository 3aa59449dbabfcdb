-- A token that is seen before it is taken.
use Rattle.std.specs.Prelude.{◌≡◌, ◌<◌, ◌≤◌, ◌==◌, ◌&&◌, ℕ, Bool, true, false, cond, not, nat_lt, List, length, get_or, take, drop, count_by, encode_utf8_all, Option, Some, None}
use Rattle.rdf_terms.specs.Classes.{is_turtle}
use Rattle.rdf_terms.specs.declared.kind.Dialect.TheVariants.{Turtle}
use Rattle.rdf_terms.specs.declared.kind.Kind.{Kind}
use Rattle.rdf_terms.specs.declared.kind.Kind.TheVariants.{Decimal, Double, Integer, PnameLn, PnameNs}
use Rattle.rdf_tokens.specs.Blank.{comment_step, comment_after}
use Rattle.rdf_tokens.specs.Front.{bytes_of}
use Rattle.rdf_tokens.specs.Look.{IsLook}
use Rattle.rdf_tokens.specs.Moves.{BeginsChar}
use Rattle.rdf_tokens.specs.Quick.{IsToken, is_name_end, stands_at}
use Rattle.rdf_tokens.specs.Scans.{GivesToken, KnowsItsColon, KnowsColon, is_end, token_of}
use Rattle.rdf_tokens.specs.Tokens.{Tail, blank, rest_of, step}
use Rattle.rdf_tokens.specs.Unread.{Unread}
use Rattle.rdf_tokens.specs.declared.look.Look.TheVariants.{Token as IsAt}
use Rattle.rdf_tokens.specs.declared.peek.FarName.{FarName}
use Rattle.rdf_tokens.specs.declared.peek.FarName.TheVariants as far
use Rattle.rdf_tokens.specs.declared.peek.Peeked.{Peeked}
use Rattle.rdf_tokens.specs.declared.peek.Signed.{Signed}
use Rattle.rdf_tokens.specs.declared.peek.Signed.TheVariants as signed
use Rattle.rdf_tokens.specs.declared.token.Token.{Token as Given}

-- the length of the space that comes first
abbrev pub one_space : List ℕ → ℕ
one_space bs = cond (stands_at 32 bs 0) 1 0

-- something stands between two places that does not begin with '-', and after it a byte with which no name goes on
abbrev pub is_local : List ℕ → ℕ → ℕ → Bool
is_local bs from end = is_name_end bs end && (nat_lt from end && not (get_or bs from 0 == 45))

-- the kind of a name with an empty prefix, by its length
abbrev pub local_kind : ℕ → Kind
local_kind n = cond (n == 1) PnameNs PnameLn

-- what is told of a name is so, whose local part begins at this place
abbrev pub IsFarName : List ℕ → ℕ → FarName → Type 0
IsFarName bs past far.Unknown = Unit {0}
IsFarName bs past (far.Plain n) = IsToken Turtle bs n PnameLn × KnowsColon (take n bs) past
IsFarName bs past (far.Escaped n) = IsToken Turtle bs n PnameLn

-- what is told of a number with a sign is so
abbrev pub IsSigned : List ℕ → Signed → Type 0
IsSigned bs signed.Unknown = Unit {0}
IsSigned bs (signed.Integer n) = IsToken Turtle bs n Integer
IsSigned bs (signed.Decimal n) = IsToken Turtle bs n Decimal
IsSigned bs (signed.Double n) = IsToken Turtle bs n Double

-- The text begins with this token, seen after so many bytes of white space.
abbrev pub Sees : List ℕ → ℕ → Option Peeked → Type 0
Sees bs n None = Unit {0}
Sees bs n (Some p) = (p.blank ≡ n) × IsToken Turtle bs p.len p.kind × KnowsColon (take p.len bs) p.colon

-- The text begins neither with white space nor with a comment.
pub record IsBare (bs : List ℕ) : Type 0 where
  pub some : 0 < length bs
  pub first : comment_step Turtle false (get_or bs 0 0) ≡ None

-- The text begins with white space of so many bytes, which has no line feed, and then with this token, whatever comes after the text.
pub record IsSeen (bs : List ℕ) (p : Peeked) : Type 0 where
  pub space : blank Turtle false bs ≡ p.blank
  pub closed : comment_after Turtle false bs ≡ false
  pub flat : count_by (λ b. b == 10) (take p.blank bs) ≡ 0
  pub token : IsToken Turtle (drop p.blank bs) p.len p.kind
  pub colon : KnowsColon (take p.len (drop p.blank bs)) p.colon

-- tokens of Turtle are given, and no comment is open
abbrev pub is_running : Unread → Bool
is_running v = is_turtle v.dialect && (v.begun && (not v.stopped && not v.comment))

-- It is so, the bytes after the text begin a character, or are none, and no token of the text is longer than the limit.
pub record MayPeek (v : Unread) : Type 0 where
  pub plain : is_running v ≡ true
  pub begins : BeginsChar v.pending
  pub short : length (encode_utf8_all v.text) ≤ v.limit

-- Tokens may be seen, and the next is this one, whatever comes after the text. The white space before it has no line feed.
pub record IsPeeked (v : Unread) (p : Peeked) : Type 0 where
  pub may : MayPeek v
  pub space : p.blank ≡ bytes_of (blank v.dialect false v.text) v.text
  pub closed : comment_after v.dialect false v.text ≡ false
  pub flat : count_by (λ c. c == 10) (take (blank v.dialect false v.text) v.text) ≡ 0
  pub look : (t : Tail) → IsLook (IsAt p.len p.kind) (step v.dialect v.limit t (rest_of v.dialect false v.text)) (rest_of v.dialect false v.text)
  pub colon : KnowsColon (take p.len (encode_utf8_all (rest_of v.dialect false v.text))) p.colon

-- The token that was seen was given, it is not the end, and the next may be seen.
pub record TakesSeen (old : Unread) (p : Peeked) (t : Given) (new : Unread) : Type 0 where
  pub given : GivesToken old (token_of t) new
  pub colon : KnowsItsColon t
  pub kind : t.kind ≡ p.kind
  pub goes_on : is_end t.kind ≡ false
  pub again : MayPeek new
