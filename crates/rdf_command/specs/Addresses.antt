-- The address of a document: the `file:` IRI of its absolute path (RFC 8089), in which bytes are percent-encoded (RFC 3986 section 2.1).
use Prim.Native.Char.{code}
use Rattle.std.specs.Prelude.{◌≡◌, ◌⊎◌, ℕ, Bool, true, false, List, [], ◌∷◌, ◌++◌, ◌||◌, ◌==◌, ◌/◌, ◌%◌, bytes_eq, codes, cond, flat_map, Option, Some, None, ⊤}
use Rattle.std.specs.Char.{is_ascii_alphanumeric}
use Rattle.std.specs.Fmt.{digit_glyph}
use Rattle.std.specs.Str.{chars}
use Rattle.clap.specs.Words.{Text}
use Rattle.rdf_command.specs.Words.{IsBase}

-- a byte that an address has as it is: an unreserved character of RFC 3986 section 2.3, or the slash
abbrev pub is_path_byte : ℕ → Bool
is_path_byte byte = is_ascii_alphanumeric byte || byte == code "-" || byte == code "." || byte == code "_" || byte == code "~" || byte == code "/"

-- a byte of a path as an address has it: as it is, or as a percent sign and two hex digits in capitals
abbrev pub in_address : ℕ → List ℕ
in_address byte = cond (is_path_byte byte) (byte ∷ []) (code "%" ∷ digit_glyph true (byte / 16) ∷ digit_glyph true (byte % 16) ∷ [])

-- whether a name begins with a slash
abbrev pub is_absolute : Text → Bool
is_absolute [] = false
is_absolute (byte ∷ rest) = byte == code "/"

-- a folder with a slash after it, which the folder of all has already
abbrev pub in_folder : Text → Text
in_folder folder = cond (bytes_eq folder (codes "/")) folder (folder ++ codes "/")

-- the absolute path of the file of a name, where names start from this folder
abbrev pub path_of : Text → Text → Text
path_of folder name = cond (is_absolute name) name (in_folder folder ++ name)

-- its address
abbrev pub address_of : Text → Text → Text
address_of folder name = codes "file://" ++ flat_map in_address (path_of folder name)

-- The base is the address of the file of this name, an IRI of at most so many bytes. Standard input has no name, and no address.
abbrev pub IsAddress : ℕ → Text → Option Text → List ℕ → Type 0
IsAddress most folder None base = ⊥
IsAddress most folder (Some name) base = (base ≡ chars (address_of folder name)) × IsBase most (address_of folder name)

-- there is no such base
abbrev pub HasNoAddress : ℕ → Text → Option Text → Type 0
HasNoAddress most folder None = ⊤
HasNoAddress most folder (Some name) = IsBase most (address_of folder name) → ⊥

-- what can be told of the folder that names start from
pub record Folders : Type 1 where
  -- this is its path
  pub is : Text → Type 0
  -- it can't be told
  pub is_untold : Type 0

-- the folder can't be told, or the file of this name has no address in it
abbrev pub LacksAddress : Folders → ℕ → Option Text → Type 0
LacksAddress folders most file = folders.is_untold ⊎ ((folder : Text) × folders.is folder × HasNoAddress most folder file)

-- The folder that a run starts from, by whether it needs one.
abbrev pub IsFolderFor : Folders → Bool → Option Text → Type 0
IsFolderFor folders false None = ⊤
IsFolderFor folders false (Some folder) = ⊥
IsFolderFor folders true None = ⊥
IsFolderFor folders true (Some folder) = folders.is folder
