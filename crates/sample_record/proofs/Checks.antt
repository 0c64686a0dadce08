-- The answers of `record_of`, each from the checks that lead to it: what failed, and what passed before it.
use mathlib.Core.Path.{◌≡◌}
use mathlib.Core.Logic.{◌≢◌}
use mathlib.Core.Bool.{true, false}
use mathlib.Core.List.{List}
use Prim.Native.Nat.{ℕ, ◌+◌, ◌*◌, ◌≤◌, ◌<◌}
use lib.Dec.{ltb, eqb}
use lib.ListN.{length}
use borrow.Author.Tests.{lt-ltb, le-ltb, eq-eqb, ne_eqb}
use Rattle.std.specs.Prelude.{Ok, Err, cond}
use Rattle.refusals.specs.declared.Refusal.TheVariants.{Size, Numbering, SampleCount, Malformed}
use Rattle.numbering.specs.declared.Numbering.TheVariants.{Crate, Joined}
use Rattle.little_endian.specs.Words.{word_at}
use Rattle.sample_record.specs.Record.{sample_count, record_of}

module _ (limit : ℕ) (bytes : List ℕ) where
  pub record_of-short : length bytes < 20 → Err (Malformed (length bytes)) ≡ record_of limit bytes
  record_of-short h = rw (lt-ltb (length bytes) 20 h)

  module _ (long : 20 ≤ length bytes) where
    long-test : ltb (length bytes) 20 ≡ false
    long-test = le-ltb (length bytes) 20 long

    pub record_of-version : word_at bytes 0 ≢ 1 → Err (Malformed 0) ≡ record_of limit bytes
    record_of-version h = rw (long-test, ne_eqb (word_at bytes 0) 1 h)

    module _ (version : word_at bytes 0 ≡ 1) where
      version-test : eqb (word_at bytes 0) 1 ≡ true
      version-test = eq-eqb (word_at bytes 0) 1 version

      pub record_of-small : word_at bytes 4 < 2 → Err Size ≡ record_of limit bytes
      record_of-small h = rw (long-test, version-test, lt-ltb (word_at bytes 4) 2 h)

      module _ (least : 2 ≤ word_at bytes 4) where
        least-test : ltb (word_at bytes 4) 2 ≡ false
        least-test = le-ltb (word_at bytes 4) 2 least

        pub record_of-large : limit < word_at bytes 4 → Err Size ≡ record_of limit bytes
        record_of-large h = rw (long-test, version-test, least-test, lt-ltb limit (word_at bytes 4) h)

        module _ (most : word_at bytes 4 ≤ limit) where
          most-test : ltb limit (word_at bytes 4) ≡ false
          most-test = le-ltb limit (word_at bytes 4) most

          pub record_of-numbering : 1 < word_at bytes 8 → Err Numbering ≡ record_of limit bytes
          record_of-numbering h = rw (long-test, version-test, least-test, most-test, lt-ltb 1 (word_at bytes 8) h)

          module _ (numbering : word_at bytes 8 ≤ 1) where
            numbering-test : ltb 1 (word_at bytes 8) ≡ false
            numbering-test = le-ltb 1 (word_at bytes 8) numbering

            pub record_of-count : word_at bytes 12 ≢ sample_count (word_at bytes 4) → Err SampleCount ≡ record_of limit bytes
            record_of-count h =
                rw (long-test, version-test, least-test, most-test, numbering-test, ne_eqb (word_at bytes 12) (sample_count (word_at bytes 4)) h)

            module _ (count : word_at bytes 12 ≡ sample_count (word_at bytes 4)) where
              count-test : eqb (word_at bytes 12) (sample_count (word_at bytes 4)) ≡ true
              count-test = eq-eqb (word_at bytes 12) (sample_count (word_at bytes 4)) count

              pub record_of-offset : word_at bytes 16 ≢ 20 → Err (Malformed 16) ≡ record_of limit bytes
              record_of-offset h =
                  rw (long-test, version-test, least-test, most-test, numbering-test, count-test, ne_eqb (word_at bytes 16) 20 h)

              module _ (offset : word_at bytes 16 ≡ 20) where
                offset-test : eqb (word_at bytes 16) 20 ≡ true
                offset-test = eq-eqb (word_at bytes 16) 20 offset

                pub record_of-length : length bytes ≢ 20 + 4 * word_at bytes 12 → Err (Malformed 20) ≡ record_of limit bytes
                record_of-length h =
                    rw (long-test, version-test, least-test, most-test, numbering-test, count-test, offset-test, ne_eqb (length bytes) (20 + 4 * word_at bytes 12) h)

                pub record_of-whole : length bytes ≡ 20 + 4 * word_at bytes 12
                    → Ok (record { size = word_at bytes 4; numbering = cond (eqb (word_at bytes 8) 0) Crate Joined }) ≡ record_of limit bytes
                record_of-whole h =
                    rw (long-test, version-test, least-test, most-test, numbering-test, count-test, offset-test, eq-eqb (length bytes) (20 + 4 * word_at bytes 12) h)
