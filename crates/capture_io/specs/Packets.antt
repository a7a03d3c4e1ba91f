-- Captures as they are written, in each form: what a file begins with, and what stands before and behind a packet.
use Rattle.std.specs.Prelude.{ℕ, ◌+◌, ◌-◌, ◌*◌, ◌/◌, ◌%◌, ◌^◌, false, List, [], ◌++◌, length, replicate}
use Rattle.capture_io.specs.declared.written.Written.{Written}
use Rattle.capture_io.specs.declared.written.Written.TheVariants as written
use Rattle.capture_io.specs.Words.{half_bytes, word_bytes}
use Rattle.capture_io.specs.Written.{header_bytes}

-- the header of a record; the original length is the captured one
abbrev pub record_head : ℕ → ℕ → ℕ → List ℕ
record_head seconds fraction count = word_bytes false seconds ++ word_bytes false fraction ++ word_bytes false count ++ word_bytes false count

-- the zeros that fill up the last four bytes
abbrev pub padding : ℕ → ℕ
padding count = (4 - count % 4) % 4

-- the length of an enhanced packet block without options
abbrev pub block_len : ℕ → ℕ
block_len count = 32 + count + padding count

-- a time in ticks of a nanosecond
abbrev pub ticks : ℕ → ℕ → ℕ
ticks seconds fraction = seconds * 1000000000 + fraction

-- Before the packet: the type of the block (6), its length, interface 0, the two halves of the time, the captured and the
-- original length (the pcapng format, section 4.3).
abbrev pub block_words : ℕ → ℕ → ℕ → ℕ → List ℕ
block_words block high low count =
    word_bytes false 6 ++ word_bytes false block ++ word_bytes false 0 ++ word_bytes false high ++ word_bytes false low
    ++ word_bytes false count ++ word_bytes false count

abbrev pub block_head : ℕ → ℕ → ℕ → List ℕ
block_head seconds fraction count =
    block_words (block_len count) (ticks seconds fraction / 2 ^ 32) (ticks seconds fraction % 2 ^ 32) count

-- behind the packet: zeros, and the length again
abbrev pub block_tail : ℕ → List ℕ
block_tail count = replicate (padding count) 0 ++ word_bytes false (block_len count)

-- A section header without options, of a length that is not said (section 4.1), and an interface of plain IP, with a snapshot
-- length of 262144 and ticks of 10^-9 seconds (section 4.2, option 9).
abbrev pub section_bytes : List ℕ
section_bytes =
    word_bytes false 0x0a0d0d0a ++ word_bytes false 28 ++ word_bytes false 0x1a2b3c4d ++ half_bytes false 1 ++ half_bytes false 0
    ++ word_bytes false 0xffffffff ++ word_bytes false 0xffffffff ++ word_bytes false 28
    ++ word_bytes false 1 ++ word_bytes false 32 ++ half_bytes false 101 ++ half_bytes false 0 ++ word_bytes false 262144
    ++ half_bytes false 9 ++ half_bytes false 1 ++ word_bytes false 9 ++ word_bytes false 0 ++ word_bytes false 32

-- what a file begins with
abbrev pub file_head : Written → List ℕ
file_head (written.Classic nano) = header_bytes nano
file_head written.Blocks = section_bytes

-- what stands before a packet of so many bytes
abbrev pub packet_head : Written → ℕ → ℕ → ℕ → List ℕ
packet_head (written.Classic nano) seconds fraction count = record_head seconds fraction count
packet_head written.Blocks seconds fraction count = block_head seconds fraction count

-- what stands behind it
abbrev pub packet_tail : Written → ℕ → List ℕ
packet_tail (written.Classic nano) count = []
packet_tail written.Blocks count = block_tail count

-- a packet with its time
abbrev pub packet_bytes : Written → ℕ → ℕ → List ℕ → List ℕ
packet_bytes form seconds fraction packet = packet_head form seconds fraction (length packet) ++ packet ++ packet_tail form (length packet)
