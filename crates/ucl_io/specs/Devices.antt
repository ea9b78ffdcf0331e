-- What contracts see of a reader of std as a source (`FromRead`), and of a writer as a sink.
use Rattle.std.specs.Prelude.{Bool}
use Rattle.ucl_io.specs.declared.devices.FromRead.{FromRead}
use Rattle.ucl_io.specs.declared.devices.ToWrite.{ToWrite}

-- the reader of std from which a source takes its bytes
abbrev pub reader_of : {R : Type 0} → FromRead R → R
reader_of source = source.reader

-- whether a call of a source has failed
abbrev pub read_failed : {R : Type 0} → FromRead R → Bool
read_failed source = source.has_failed

-- the writer of std to which a sink gives its bytes
abbrev pub writer_of : {W : Type 0} → ToWrite W → W
writer_of sink = sink.writer

-- whether a call of a sink has failed
abbrev pub write_failed : {W : Type 0} → ToWrite W → Bool
write_failed sink = sink.has_failed
