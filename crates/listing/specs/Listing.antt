-- The listing of an image: what the listing program writes.
use Rattle.std.specs.Prelude.{ℕ, zero, suc, ◌+◌, ◌-◌, ◌*◌, cond, ◌&&◌, List, [], ◌++◌, length, eqb, ltb, leb}
use Rattle.answers.specs.Outcomes.{Outcome, outcome}
use Rattle.ascii.specs.Ascii.{bytes}
use Rattle.ascii.specs.Numbers.{hex}
use Rattle.ascii.specs.Rooms.{fronted}
use Rattle.octets.specs.Bytes.{load}
use Rattle.fetch.specs.Fetching.{fetched}
use Rattle.text.specs.Text.{text_of, short_text_of}
use Rattle.listing.specs.declared.Shown.{Shown}
use Rattle.listing.specs.declared.Shown.TheVariants.{Long, Short, Unknown, Odd}
use Rattle.listing.specs.declared.Listed.{Listed}
use Rattle.fetch.specs.Fetching.{Fetched}
use Rattle.std.specs.Prelude.{Err, Ok}

-- ---- what a line shows

-- an instruction of four bytes or of two; bits that are not a legal instruction that fits
unfoldable pub shown_of : Fetched → Shown
shown_of (Ok (i, len)) = cond (eqb len 4) (Long i) (Short i)
shown_of (Err stop) = Unknown

-- at address a: what a step would fetch there; a last odd byte
unfoldable pub shown_at : List ℕ → ℕ → Shown
shown_at image a = cond (leb (a + 2) (length image)) (shown_of (fetched a image)) Odd

-- how many bytes it is
abbrev pub size_of : Shown → ℕ
size_of (Long i) = 4
size_of (Short i) = 2
size_of Unknown = 2
size_of Odd = 1

abbrev pub shown_text : Shown → List ℕ
shown_text (Long i) = text_of i
shown_text (Short i) = short_text_of i
shown_text Unknown = bytes "?"
shown_text Odd = bytes "?"

-- ---- lines, and the address after what they show

pub record Lines : Type 0 where
  pub text : List ℕ
  pub next : ℕ

abbrev pub lines : List ℕ → ℕ → Lines
lines text next = record { text = text; next = next }

-- 8 hex digits of address, a space, the bytes as a number with two digits for each, a space, the text; each line ends with a newline
unfoldable pub line_of : List ℕ → ℕ → Shown → List ℕ
line_of image a s = hex 8 a ++ bytes " " ++ hex (2 * size_of s) (load (size_of s) a image) ++ bytes " " ++ shown_text s ++ bytes "\n"

-- the line at address a; an image of over 65,536 bytes has the one line `too long`
unfoldable pub line_at : List ℕ → ℕ → Lines
line_at image a =
    cond (leb (length image) 65536)
    (lines (line_of image a (shown_at image a)) (a + size_of (shown_at image a)))
    (lines (bytes "too long\n") (length image))

-- the lines from address a on, of which there are at most n
unfoldable pub lines_from : ℕ → List ℕ → ℕ → List ℕ
lines_from zero image a = []
lines_from (suc n) image a = cond (ltb a (length image)) ((line_at image a).text ++ lines_from n image (line_at image a).next) []

-- a line shows a byte or more, so there are no more lines than bytes
unfoldable pub listing : List ℕ → List ℕ
listing image = lines_from (length image) image 0

-- ---- a page: whole lines from address a on, while 38 bytes are left, which hold any line

abbrev pub before : Lines → Lines → Lines
before first rest = lines (first.text ++ rest.text) rest.next

unfoldable pub page_from : ℕ → List ℕ → ℕ → ℕ → Lines
page_from zero image left a = lines [] a
page_from (suc n) image left a =
    cond (ltb a (length image) && leb 38 left)
    (before (line_at image a) (page_from n image (left - length (line_at image a).text) (line_at image a).next))
    (lines [] a)

abbrev pub page_of : List ℕ → ℕ → ℕ → Lines
page_of image left a = page_from (length image) image left a

-- what `list` answers and leaves: the page's length and the address after it, and the page at the front of the room

abbrev pub paged : Lines → List ℕ → Outcome Listed (List ℕ)
paged p room = outcome (record { length = length p.text; next = p.next }) (fronted p.text room)

abbrev pub list_entry : List ℕ → ℕ → List ℕ → Outcome Listed (List ℕ)
list_entry image a room = paged (page_of image (length room) a) room
