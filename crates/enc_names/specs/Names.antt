-- The names of the encodings (Encoding Standard, "Names and labels").
use Rattle.std.specs.Prelude.{ℕ, List, [], ◌∷◌, codes}
use Rattle.enc_names.specs.declared.encoding.Encoding.{Encoding}
use Rattle.enc_names.specs.declared.encoding.Encoding.TheVariants as name

-- the name's ASCII bytes
abbrev pub name_of : Encoding → List ℕ
name_of name.Utf8 = codes "UTF-8"
name_of name.Ibm866 = codes "IBM866"
name_of name.Iso8859_2 = codes "ISO-8859-2"
name_of name.Iso8859_3 = codes "ISO-8859-3"
name_of name.Iso8859_4 = codes "ISO-8859-4"
name_of name.Iso8859_5 = codes "ISO-8859-5"
name_of name.Iso8859_6 = codes "ISO-8859-6"
name_of name.Iso8859_7 = codes "ISO-8859-7"
name_of name.Iso8859_8 = codes "ISO-8859-8"
name_of name.Iso8859_8I = codes "ISO-8859-8-I"
name_of name.Iso8859_10 = codes "ISO-8859-10"
name_of name.Iso8859_13 = codes "ISO-8859-13"
name_of name.Iso8859_14 = codes "ISO-8859-14"
name_of name.Iso8859_15 = codes "ISO-8859-15"
name_of name.Iso8859_16 = codes "ISO-8859-16"
name_of name.Koi8R = codes "KOI8-R"
name_of name.Koi8U = codes "KOI8-U"
name_of name.Macintosh = codes "macintosh"
name_of name.Windows874 = codes "windows-874"
name_of name.Windows1250 = codes "windows-1250"
name_of name.Windows1251 = codes "windows-1251"
name_of name.Windows1252 = codes "windows-1252"
name_of name.Windows1253 = codes "windows-1253"
name_of name.Windows1254 = codes "windows-1254"
name_of name.Windows1255 = codes "windows-1255"
name_of name.Windows1256 = codes "windows-1256"
name_of name.Windows1257 = codes "windows-1257"
name_of name.Windows1258 = codes "windows-1258"
name_of name.XMacCyrillic = codes "x-mac-cyrillic"
name_of name.Gbk = codes "GBK"
name_of name.Gb18030 = codes "gb18030"
name_of name.Big5 = codes "Big5"
name_of name.EucJp = codes "EUC-JP"
name_of name.Iso2022Jp = codes "ISO-2022-JP"
name_of name.ShiftJis = codes "Shift_JIS"
name_of name.EucKr = codes "EUC-KR"
name_of name.Replacement = codes "replacement"
name_of name.Utf16Be = codes "UTF-16BE"
name_of name.Utf16Le = codes "UTF-16LE"
name_of name.XUserDefined = codes "x-user-defined"

-- every encoding once, in the order of the Standard's table
abbrev pub encodings : List Encoding
encodings =
    name.Utf8 ∷ name.Ibm866 ∷ name.Iso8859_2 ∷ name.Iso8859_3 ∷ name.Iso8859_4 ∷ name.Iso8859_5 ∷ name.Iso8859_6 ∷ name.Iso8859_7 ∷ name.Iso8859_8
    ∷ name.Iso8859_8I ∷ name.Iso8859_10 ∷ name.Iso8859_13 ∷ name.Iso8859_14 ∷ name.Iso8859_15 ∷ name.Iso8859_16 ∷ name.Koi8R ∷ name.Koi8U
    ∷ name.Macintosh ∷ name.Windows874 ∷ name.Windows1250 ∷ name.Windows1251 ∷ name.Windows1252 ∷ name.Windows1253 ∷ name.Windows1254
    ∷ name.Windows1255 ∷ name.Windows1256 ∷ name.Windows1257 ∷ name.Windows1258 ∷ name.XMacCyrillic ∷ name.Gbk ∷ name.Gb18030 ∷ name.Big5 ∷ name.EucJp
    ∷ name.Iso2022Jp ∷ name.ShiftJis ∷ name.EucKr ∷ name.Replacement ∷ name.Utf16Be ∷ name.Utf16Le ∷ name.XUserDefined ∷ []
