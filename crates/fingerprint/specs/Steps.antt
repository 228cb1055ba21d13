-- What the private functions of the crate answer. No clause of a document stands here.
-- Assumes nothing.
use Rattle.std.specs.Prelude.{cond, [], ◌++◌, length, take, leb}
use Prim.Native.Char.{code}
use Rattle.text.specs.Text.{Bytes, ascii}
use Rattle.format.specs.Read.{body}
use Rattle.frame.specs.Frame.{part_start}

-- what stands before the fourth field of an identity; nothing, where its bytes have not so many marks
unfoldable pub front_at : Bytes → Bytes
front_at s = cond (leb (part_start (code ":") (body s) 4) (length s)) (take (part_start (code ":") (body s) 4) s) []

-- the text that is hashed, of any bytes for a Subject
unfoldable pub text_at : Bytes → Bytes → Bytes
text_at s q = front_at s ++ q ++ ascii ":"
