-- The file header of a capture (the pcap format, version 2.4): magic number, version, two ignored words, the ignored
-- snapshot length, and the link type.
use Rattle.std.specs.Prelude.{ℕ, ◌==◌, nat_lt, Bool, true, false, not, ◌&&◌, ◌||◌, if◌then◌else◌, List, [], ◌∷◌, length, Result}
use Rattle.aftr_base.specs.First.{first_true, refused_or}
use Rattle.capture_io.specs.declared.forms.Form.{Form}
use Rattle.capture_io.specs.declared.forms.CaptureBad.{CaptureBad}
use Rattle.capture_io.specs.declared.forms.CaptureBad.TheVariants as bad
use Rattle.capture_io.specs.Words.{half_at, word_at}

-- The magic number: one for microseconds (in a little-endian file the bytes d4 c3 b2 a1) and one for nanoseconds.
abbrev pub magic : Bool → ℕ
magic nano = if nano then 0xa1b23c4d else 0xa1b2c3d4

-- the bytes begin with the magic number of this resolution, in this byte order
abbrev pub has_magic : Bool → Bool → List ℕ → Bool
has_magic big nano bytes = word_at big bytes 0 == magic nano

abbrev pub is_big : List ℕ → Bool
is_big bytes = has_magic true false bytes || has_magic true true bytes

abbrev pub is_nano : List ℕ → Bool
is_nano bytes = has_magic false true bytes || has_magic true true bytes

abbrev pub has_some_magic : List ℕ → Bool
has_some_magic bytes = has_magic false false bytes || is_big bytes || is_nano bytes

abbrev pub is_version_2_4 : List ℕ → Bool
is_version_2_4 bytes = (half_at (is_big bytes) bytes 4 == 2) && (half_at (is_big bytes) bytes 6 == 4)

-- link type 1 is Ethernet, link type 101 is plain IP
abbrev pub is_known_link : ℕ → Bool
is_known_link link = (link == 1) || (link == 101)

-- what the header says
abbrev pub form_in : List ℕ → Form
form_in bytes = record { big = is_big bytes; nano = is_nano bytes; link = word_at (is_big bytes) bytes 20 }

-- what is wrong with it: each condition with its refusal
abbrev pub header_refusals : List ℕ → List (Bool × CaptureBad)
header_refusals bytes =
    (nat_lt (length bytes) 24, bad.CutHeader 0)
    ∷ (not (has_some_magic bytes), bad.Magic)
    ∷ (not (is_version_2_4 bytes), bad.Version)
    ∷ (not (is_known_link (form_in bytes).link), bad.Link (form_in bytes).link)
    ∷ []

abbrev pub header_in : List ℕ → Result Form CaptureBad
header_in bytes = refused_or (first_true (header_refusals bytes)) (form_in bytes)
