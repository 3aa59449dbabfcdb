-- What slices of a text mean: their characters, or their bytes.
use Rattle.std.specs.Prelude.{ℕ, List, Option, Some, None, option_map}
use Rattle.std.specs.Str.{chars}
use denote.Ref.{Bor}
use Rattle.rdf_iri.specs.declared.parts.Parts.{Parts as Slices}
use Rattle.rdf_iri.specs.Parts.{Parts}

-- what a reference that may be there refers to
abbrev pub text_of : Option (Bor (List ℕ)) → Option (List ℕ)
text_of None = None
text_of (Some s) = Some s.now

-- the bytes of the parts
abbrev pub slices : Slices → Parts
slices p = record { scheme = text_of p.scheme; authority = text_of p.authority; path = p.path.now; query = text_of p.query; fragment = text_of p.fragment }

-- the characters of a part that may be missing, given as its bytes
abbrev pub part_chars : Option (List ℕ) → Option (List ℕ)
part_chars o = option_map chars o

-- the five parts as characters, given as bytes; a part is cut at ASCII, so each is UTF-8 where the reference is
abbrev pub parts_chars : Parts → Parts
parts_chars p =
    record {
      scheme = part_chars p.scheme;
      authority = part_chars p.authority;
      path = chars p.path;
      query = part_chars p.query;
      fragment = part_chars p.fragment;
    }

-- the characters of the parts
abbrev pub seen : Slices → Parts
seen p = parts_chars (slices p)
