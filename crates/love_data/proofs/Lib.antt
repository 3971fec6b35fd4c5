mod Encodings
