-- Two words stored at the block's end are the eight octets of the length (`put_length`).
use lib.Bits.{and_mask, mask_lt}
use Prim.Native.Nat.{◌/◌, ◌*◌, ◌%◌, ◌^◌}
use borrow.Author.Rules.{rules}
use Rattle.sha256.proofs.OctetLaws.{put_length}
use Rattle.sha256.proofs.message.sized.Goals as goal

pub overflow_cast-n : goal.overflow_cast-n
overflow_cast-n c = record { fits = mask_lt (c.args.n / 2 ^ 29) 32 }

pub overflow_cast-n-2 : goal.overflow_cast-n-2
overflow_cast-n-2 c = record { fits = mask_lt (c.args.n * 2 ^ 3 % 2 ^ 64) 32 }

pub returns : goal.returns
returns c = let a = c.args in
    rw (
      c.put-2.ensures,
      c.put.ensures,
      and_mask (a.n / 2 ^ 29) 32,
      and_mask
          (a.n * 2 ^ 3 % 2 ^ 64) 32,
    )
    (put_length a.start a.n (search rules))
