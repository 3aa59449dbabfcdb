-- Sets of kinds: no two kinds have one number, and what is known of each kind up to the last one is known of all.
use Rattle.rdf_driver.proofs.Prelude.{◌≡◌, ◌≢◌, ◌+◌, ◌*◌, ◌^◌, ◌%◌, ◌==◌, ◌<◌, ◌≤◌, ℕ, Bool, true, false, List, [], ◌∷◌, get_or, refl, sym, ap, subst, ◌∙◌, ⊎_elim, arith, cases_lt, Kind, has, number}
use Rattle.std.specs.Int.{bit_at, w32}
use Rattle.std.specs.Int.RustNames.{bit_or}
use Rattle.std.proofs.lemmas.Nat.Bits.{bit_at_set_same, bit_at_set_other}
use Rattle.rdf_terms.specs.declared.kind.Kind.TheVariants.{IriRef, LabelNode, ShortString, LongString, LangTag, Carets, Dot, LineEnd, Integer, Decimal, Double, True, False, A, AtPrefix, AtBase, Prefix, Base, Graph, PnameNs, PnameLn, Semicolon, Comma, OpenBracket, CloseBracket, OpenParen, CloseParen, OpenBrace, CloseBrace, End}

-- the kinds in their order
abbrev all : List Kind
all = IriRef ∷ LabelNode ∷ ShortString ∷ LongString ∷ LangTag ∷ Carets ∷ Dot ∷ LineEnd ∷ Integer ∷ Decimal ∷ Double ∷ True ∷ False ∷ A
    ∷ AtPrefix ∷ AtBase ∷ Prefix ∷ Base ∷ Graph ∷ PnameNs ∷ PnameLn ∷ Semicolon ∷ Comma ∷ OpenBracket ∷ CloseBracket ∷ OpenParen
    ∷ CloseParen ∷ OpenBrace ∷ CloseBrace ∷ End ∷ []

-- each stands where its number says
stands : (k : Kind) → get_or all (number k) End ≡ k
stands IriRef = refl
stands LabelNode = refl
stands ShortString = refl
stands LongString = refl
stands LangTag = refl
stands Carets = refl
stands Dot = refl
stands LineEnd = refl
stands Integer = refl
stands Decimal = refl
stands Double = refl
stands True = refl
stands False = refl
stands A = refl
stands AtPrefix = refl
stands AtBase = refl
stands Prefix = refl
stands Base = refl
stands Graph = refl
stands PnameNs = refl
stands PnameLn = refl
stands Semicolon = refl
stands Comma = refl
stands OpenBracket = refl
stands CloseBracket = refl
stands OpenParen = refl
stands CloseParen = refl
stands OpenBrace = refl
stands CloseBrace = refl
stands End = refl

-- so kinds of one number are one
pub same_kind : (j k : Kind) → number j ≡ number k → j ≡ k
same_kind j k e = sym (stands j) ∙ (ap (λ n. get_or all n End) e ∙ stands k)

-- A bit that is set is that of a kind in the set, and the others stay.
module _ (bits n : ℕ) (kind : Kind) (is : n ≡ number kind) (bit : n < 32) where
  pub has_added : has (bit_or bits (1 * 2 ^ n % 4294967296)) kind ≡ true
  has_added = subst (λ m. (bit_at (bit_or bits (1 * 2 ^ n % 4294967296)) m == 1) ≡ true) is (ap (λ x. x == 1) (bit_at_set_same w32 bits n bit))

  pub has_others : (k : Kind) → k ≢ kind → has (bit_or bits (1 * 2 ^ n % 4294967296)) k ≡ has bits k
  has_others k apart = ap (λ x. x == 1) (bit_at_set_other w32 bits n bit (number k) (λ e. apart (same_kind k kind (e ∙ is))))

-- none has a number that is too high
pub few : (k : Kind) → number k < 30
few IriRef = omega arith
few LabelNode = omega arith
few ShortString = omega arith
few LongString = omega arith
few LangTag = omega arith
few Carets = omega arith
few Dot = omega arith
few LineEnd = omega arith
few Integer = omega arith
few Decimal = omega arith
few Double = omega arith
few True = omega arith
few False = omega arith
few A = omega arith
few AtPrefix = omega arith
few AtBase = omega arith
few Prefix = omega arith
few Base = omega arith
few Graph = omega arith
few PnameNs = omega arith
few PnameLn = omega arith
few Semicolon = omega arith
few Comma = omega arith
few OpenBracket = omega arith
few CloseBracket = omega arith
few OpenParen = omega arith
few CloseParen = omega arith
few OpenBrace = omega arith
few CloseBrace = omega arith
few End = omega arith

-- Of the kinds before a number it is known whether they are in the set, and none of the others is.
abbrev pub AskedTo : (Kind → Bool → Type 0) → ℕ → ℕ → Type 0
AskedTo P n kinds = (k : Kind) → (number k < n → P k (has kinds k)) × (n ≤ number k → has kinds k ≡ false)

-- one kind more was asked
pub asked_one : (P : Kind → Bool → Type 0) (n : ℕ) (old new : ℕ) (kind : Kind) → number kind ≡ n → P kind (has new kind) →
    ((k : Kind) → k ≢ kind → has new k ≡ has old k) → AskedTo P n old → AskedTo P (n + 1) new
asked_one P n old new kind is known others before k = (
  λ l.
      ⊎_elim
      (λ less. subst (P k) (sym (others k (other (omega (arith, less, is))))) ((before k).0 less))
      (λ more. subst (λ y. P y (has new y)) (sym (same_kind k kind (omega (arith, l, more, is)))) known)
      (cases_lt (number k) n),
  λ l. others k (other (omega (arith, l, is))) ∙ (before k).1 (omega (arith, l)),
)
  where
    other : (number k ≡ number kind → ⊥) → k ≢ kind
    other apart e = apart (ap number e)

-- all were asked
pub asked_all : (P : Kind → Bool → Type 0) (n : ℕ) (kinds : ℕ) → n ≡ 29 → AskedTo P (n + 1) kinds → (k : Kind) → P k (has kinds k)
asked_all P n kinds last asked k = let f = few k in (asked k).0 (omega (arith, f, last))
